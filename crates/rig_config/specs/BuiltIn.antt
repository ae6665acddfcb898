-- The built-in configuration: one line, and two tenants.
use Rattle.std.specs.Prelude.{ℕ, List, [], ◌∷◌, ◌++◌, codes}
use Rattle.rig_config.specs.Intervals.{whole}
use Rattle.rig_config.specs.declared.TenantConfig.{TenantConfig}
use Rattle.rig_config.specs.declared.Config.{Config}

-- a tenant that may read the one line, and drive the given ones
abbrev pub built_in_tenant : List ℕ → List ℕ → List ℕ → TenantConfig
built_in_tenant name key writes = record {
  name = name;
  key = key;
  budgets = record { reads = 0 ∷ []; writes = writes; bytes = 4096; ports = 64; tasks = 16; modes = 16; steps = 10000; trace = 8; offers = 4; binds = 4; bounds = whole };
}

abbrev pub built_in_config : Config
built_in_config = record {
  lines = 1;
  tenants = built_in_tenant (codes "alpha") (codes "ka") (0 ∷ []) ∷ built_in_tenant (codes "beta") (codes "kb") [] ∷ [];
}

-- the text of the built-in configuration
abbrev pub built_in_text : List ℕ
built_in_text =
    codes "version = 1\nlines = 1\n"
    ++ codes "[[tenant]]\nname = \"alpha\"\nkey = \"ka\"\nreads = [0]\nwrites = [0]\nbytes = 4096\nports = 64\n"
    ++ codes "tasks = 16\nmodes = 16\nsteps = 10000\ntrace = 8\noffers = 4\nbinds = 4\n"
    ++ codes "[[tenant]]\nname = \"beta\"\nkey = \"kb\"\nreads = [0]\nwrites = []\nbytes = 4096\nports = 64\n"
    ++ codes "tasks = 16\nmodes = 16\nsteps = 10000\ntrace = 8\noffers = 4\nbinds = 4\n"
