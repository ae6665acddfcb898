-- The rig of the examples: the built-in configuration, and a new host.
use Rattle.rig_model.specs.config.BuiltIn.{built_in_config}
use Rattle.rig_model.specs.Base.{new_base, Setting}

abbrev pub rig : Setting
rig = record { config = built_in_config; base = new_base built_in_config 0 }
