-- What is reported about a configuration.
use Rattle.std.specs.Prelude.{◌≡◌, ℕ, true, false, List, ◌++◌, Result, Ok, Err, string_bytes}
use Rattle.giotto_faults.specs.declared.findings.Finding.{Finding}
use Rattle.plant_couplings.specs.Reading.{plant_of}
use Rattle.plant_couplings.specs.declared.couplings.Plant.{Plant}
use Rattle.plant_couplings.specs.declared.faults.PlantFault.{PlantFault}
use Rattle.program_checks.specs.faults.Findings.{BeginsWith, head_of}
use Rattle.program_checks.specs.reports.Reports.{AreShown}
use Rattle.giotto_reports.specs.declared.Report.{Report}
use Rattle.rig_model.specs.config.Reading.{config_of}
use Rattle.rig_model.specs.config.Roster.{Rig}
use Rattle.rig_model.specs.declared.config.faults.ConfigFault.{ConfigFault}
use Rattle.config_checks.specs.Faults.{TellsFault}
use Rattle.config_checks.specs.Notes.{AreNotes, notes_on}
use Rattle.config_checks.specs.Plants.{TellsPlantFault, unfed_on}
use Rattle.config_checks.specs.Summaries.{summary_of}

-- The report on a file is true: it has the configuration with the notes on it and on its plant, or a finding that shows its first fault, that of the
-- plant last.
abbrev pub IsToldOf : List ℕ → List ℕ → Report → Type 0
IsToldOf file text report = by (config_of text)
  where
    told : List ℕ
    told = string_bytes report.text

    good : Rig → Plant → Type 0
    good rig plant =
        (report.is_good ≡ true) × ((notes : List Finding) × (shown : List ℕ) × AreNotes (notes_on rig ++ unfed_on rig plant) notes × AreShown file text notes shown × (told ≡ summary_of file rig ++ shown))

    refused : (Finding → Type 0) → Type 0
    refused Tells = (report.is_good ≡ false) × ((f : Finding) × Tells f × BeginsWith (head_of f file text) told)

    with_plant : Rig → Result Plant PlantFault → Type 0
    with_plant rig (Ok plant) = good rig plant
    with_plant rig (Err fault) = refused (TellsPlantFault fault)

    by : Result Rig ConfigFault → Type 0
    by (Ok rig) = with_plant rig (plant_of rig.lines text)
    by (Err fault) = refused (TellsFault text fault)
