-- The report on a run is the one on its script.
use Rattle.std.proofs.Common.{◌≡◌, ◌==◌, ◌∙◌, ℕ, if◌then◌else◌, List, [], Option, None, IfSome, ap, subst, sym}
use Rattle.std.specs.Io.Buffered.{reader_buffer, reader_capacity, reader_inner, reader_remaining}
use Rattle.std.specs.Io.KnownBytes.{prepend_known}
use Rattle.std.specs.declared.io.buffered.BufReader.{BufReader}
use Rattle.giotto_reports.specs.declared.Report.{Report}
use Rattle.rig_model.specs.TextLines.{cut}
use Rattle.rig_model.specs.config.Roster.{Rig}
use Rattle.script_checks.specs.Reports.{IsReportOf, IsReportOfAll}
use Rattle.rig_files.specs.declared.inputs.ScriptInput.{ScriptInput}
use Rattle.rig_files.specs.declared.inputs.ScriptInput.TheVariants as input
use Rattle.rig_files.specs.declared.inputs.ScriptReader.{ScriptReader}
use Rattle.rig_files.specs.declared.inputs.ScriptReader.TheVariants as reader
use Rattle.rig_files.specs.cited.Inputs.{IsReaderOf, bytes_left}
use Rattle.file_checks.specs.inner.Reports.{IsReportOn}

module _ {I F : Type 0} (standard : I → Option (List ℕ)) (file : F → Option (List ℕ)) where
  module _ {A : Type 0} (buffered : BufReader (ScriptReader I F) A) where
    left_in : (opened : ScriptReader I F) → reader_inner buffered ≡ opened → reader_buffer buffered ≡ [] → reader_capacity buffered ≡ 8192
        → reader_remaining (bytes_left standard file) buffered ≡ prepend_known [] (bytes_left standard file opened)
    left_in opened inner empty capacity =
        ap (λ n. if n == 0 then None else prepend_known (reader_buffer buffered) (bytes_left standard file (reader_inner buffered))) capacity
        ∙ (λ k. prepend_known (empty k) (bytes_left standard file (inner k)))

    pub report_on_run : (config : Rig) (name : List ℕ) (given : ScriptInput) (opened : ScriptReader I F) (report : Report) → IsReaderOf given opened → reader_inner buffered ≡ opened → reader_buffer buffered ≡ []
        → reader_capacity buffered ≡ 8192 → IsReportOfAll config name (reader_remaining (bytes_left standard file) buffered) report → IsReportOn config name given report
    report_on_run config name (input.Run run) (reader.Run text) report is inner empty capacity (bytes, all, on) =
        let known = subst (λ left. IfSome left (λ all. all ≡ bytes)) (left_in (reader.Run text) inner empty capacity) all in
        subst (λ (l : List ℕ). IsReportOf config name (cut l) report) (sym known ∙ is) on
    report_on_run config name (input.Run run) (reader.Standard r) report is inner empty capacity all = absurd is
    report_on_run config name (input.Run run) (reader.File r) report is inner empty capacity all = absurd is
    report_on_run config name input.Standard opened report is inner empty capacity all = is
    report_on_run config name (input.File path) opened report is inner empty capacity all = is
