-- Examples of texts, read as configurations.
use Rattle.std.proofs.Common.{◌≡◌, refl}
use Rattle.std.specs.Prelude.{codes, Ok, Err}
use Rattle.toml.proofs.OnLiterals.{toml_on_literals}
use Rattle.rig_config.specs.BuiltIn.{built_in_config, built_in_text}
use Rattle.rig_config.specs.Fields.{rig_field, tenant_field}
use Rattle.rig_config.specs.Reading.{budgets_of, config_of, rig_of, tenant_of}
use Rattle.rig_config.specs.declared.faults.ConfigFault.TheVariants.{NotToml, Missing, Range}
use Rattle.rig_config.specs.declared.faults.Field.TheVariants as field

pub built_in_read : config_of built_in_text ≡ Ok built_in_config
unfolding toml_on_literals rig_of tenant_of budgets_of
built_in_read = refl

no_toml : config_of (codes "=") ≡ Err NotToml
unfolding toml_on_literals
no_toml = refl

no_lines : config_of (codes "version = 1") ≡ Err (Missing (rig_field field.Lines))
unfolding toml_on_literals rig_of
no_lines = refl

-- the range of `lines` is checked before the missing `tenant`
lines_of_none : config_of (codes "version = 1\nlines = 0") ≡ Err (Range (rig_field field.Lines))
unfolding toml_on_literals rig_of
lines_of_none = refl

-- all fields of the first tenant are checked before those of the second
keyless : config_of (codes "version = 1\nlines = 1\ntenant = [{name = \"a\"}, {name = \"A\"}]") ≡ Err (Missing (tenant_field 0 field.Key))
unfolding toml_on_literals rig_of tenant_of
keyless = refl

-- 16 tables pass as the tenants, 17 don't
sixteen : config_of (codes "version = 1\nlines = 1\ntenant = [{}, {}, {}, {}, {}, {}, {}, {}, {}, {}, {}, {}, {}, {}, {}, {}]") ≡ Err (Missing (tenant_field 0 field.Name))
unfolding toml_on_literals rig_of tenant_of
sixteen = refl

-- there is no version 3
third_version : config_of (codes "version = 3\nlines = 0") ≡ Err (Range (rig_field field.Version))
unfolding toml_on_literals rig_of
third_version = refl

seventeen : config_of (codes "version = 1\nlines = 1\ntenant = [{}, {}, {}, {}, {}, {}, {}, {}, {}, {}, {}, {}, {}, {}, {}, {}, {}]") ≡ Err (Range (rig_field field.Tenant))
unfolding toml_on_literals rig_of
seventeen = refl
