use Rattle.std.proofs.Common.{◌≡◌, ◌∙◌, None, ap, not, refl}
use Rattle.script_checks.specs.Grants.{note_of}
use Rattle.script_checks.specs.inner.Facts.{has_fact}
use Rattle.script_checks.proofs.Keeping.{kept_with, kept_without, no_words}
use Rattle.script_checks.proofs.binds.GrantLines.keep.Goals as goal

pub returns-then-is_none : goal.returns-then-is_none
returns-then-is_none c = λ said kept.
    let none : note_of c.args.config.now (has_fact c.add.new.self) c.args.one ≡ None = no_words c.in_ok-note_of.field-0 _ c.in_ok-note_of.ensures (c.is_none.ensures ∙ ap not c.if-is_none.true) in
    kept_without c.args.config.now said c.args.one c.args.self.now (record { facts = c.add.new.self; noted = c.args.self.now.noted }) kept c.in_ok-add.ensures refl none

pub returns : goal.returns
returns c = λ said kept.
    kept_with c.args.config.now said c.args.one c.args.self.now (record { facts = c.add.new.self; noted = c.push.new.self }) kept c.in_ok-add.ensures (record { said = c.args.one; excerpt = c.in_ok-excerpt.excerpt }) refl c.in_ok-push.ensures.items
