-- Examples of configurations as one supplier may have them.
use Rattle.std.proofs.Common.{◌≡◌, [], ◌∷◌, ◌++◌, List, ℕ, false, codes, pos, refl}
use Rattle.std.specs.Char.{encode_utf8}
use Rattle.std.specs.Fmt.{digits}
use Rattle.giotto_tasks.specs.Names.{same_name}
use Rattle.rig_model.specs.config.Intervals.{whole}
use Rattle.rig_model.specs.declared.config.TenantConfig.{TenantConfig}
use Rattle.config_checks.specs.Copies.{budgets_in_toml, configuration_for, names_for, table_for}

abbrev pump : TenantConfig
pump = record {
  name = codes "pump";
  key = codes "k-pump-81";
  budgets = record { reads = 0 ∷ 2 ∷ []; writes = 3 ∷ []; bytes = 4096; ports = 32; tasks = 8; modes = 8; steps = 40; trace = 32; offers = 2; binds = 2; bounds = whole };
}

abbrev lamp : TenantConfig
lamp = record {
  name = codes "lamp";
  key = codes "k\"l\\";
  budgets = record { reads = []; writes = 4 ∷ []; bytes = 100; ports = 4; tasks = 1; modes = 2; steps = 10; trace = 8; offers = 1; binds = 1; bounds = record { low = pos 0; high = pos 10 } };
}

-- each supplier is shown its own key
own_key : names_for (codes "pump") pump ≡ codes "\n[[tenant]]\nname = \"pump\"\nkey = \"k-pump-81\"\n"
unfolding encode_utf8
own_key = refl

other_key : names_for (codes "pump") lamp ≡ codes "\n[[tenant]]\nname = \"lamp\"\nkey = \"hidden\"\n"
unfolding encode_utf8
other_key = refl

-- `"` and `\` have a `\` before them
key_with_quotes : names_for (codes "lamp") lamp ≡ codes "\n[[tenant]]\nname = \"lamp\"\nkey = \"k\\\"l\\\\\"\n"
unfolding encode_utf8
key_with_quotes = refl

abbrev rows_of_pump : List ℕ
rows_of_pump =
    codes "reads = [0, 2]\nwrites = [3]\nbytes = 4096\nports = 32\ntasks = 8\nmodes = 8\nsteps = 40\ntrace = 32\noffers = 2\nbinds = 2\n"
    ++ codes "low = -9223372036854775808\nhigh = 9223372036854775807\n"

budgets_of_pump : budgets_in_toml pump.budgets ≡ rows_of_pump
unfolding digits
budgets_of_pump = refl

abbrev rows_of_lamp : List ℕ
rows_of_lamp = codes "reads = []\nwrites = [4]\nbytes = 100\nports = 4\ntasks = 1\nmodes = 2\nsteps = 10\ntrace = 8\noffers = 1\nbinds = 1\nlow = 0\nhigh = 10\n"

no_lines : budgets_in_toml lamp.budgets ≡ rows_of_lamp
unfolding digits
no_lines = refl

abbrev head : List ℕ → List ℕ
head supplier = codes "# For " ++ (supplier ++ codes ", made by `rig_host config`: the keys of the other tenants are hidden.\nversion = 2\nlines = 6\n")

for_pump : configuration_for (record { lines = 6; tenants = pump ∷ [] }) 0 ≡ head (codes "pump") ++ (codes "\n[[tenant]]\nname = \"pump\"\nkey = \"k-pump-81\"\n" ++ rows_of_pump)
unfolding digits encode_utf8
for_pump = refl

for_lamp : configuration_for (record { lines = 6; tenants = pump ∷ lamp ∷ [] }) 1 ≡
    head (codes "lamp") ++ (codes "\n[[tenant]]\nname = \"pump\"\nkey = \"hidden\"\n" ++ (rows_of_pump
    ++ (codes "\n[[tenant]]\nname = \"lamp\"\nkey = \"k\\\"l\\\\\"\n" ++ rows_of_lamp)))
unfolding digits encode_utf8
for_lamp = refl

-- whatever the key of another tenant is, the table shows nothing of it
hidden : (supplier key : List ℕ) (tenant : TenantConfig) → same_name tenant.name supplier ≡ false
    → table_for supplier (record { name = tenant.name; key = key; budgets = tenant.budgets }) ≡ table_for supplier tenant
hidden supplier key tenant other = rw other
