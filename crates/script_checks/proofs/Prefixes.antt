-- Lemmas of `tenant_lines` that the tactic of a function of this crate names. The tactic looks for them in files of its crate.
pub use Rattle.rig_model.proofs.of_lines.WordLemmas.{prefix_more, prefix_end}
