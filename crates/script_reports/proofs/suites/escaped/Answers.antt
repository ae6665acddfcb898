use Rattle.std.proofs.Common.{[], ◌++◌, ap, ◌∙◌}
use Rattle.std.proofs.lemmas.List.{flat_map_more}
use Rattle.std.specs.Str.Iter.{chars_rest}
use Rattle.script_reports.specs.inner.Suites.{escaped_character}
use Rattle.script_reports.proofs.Escaping.{further}
use Rattle.script_reports.proofs.suites.escaped.Goals as goal

pub loop-c-preserved : goal.loop-c-preserved
loop-c-preserved c = record {
  all = further c.loop-c.yielded c.in-Some.c (chars_rest c.loop-c.c-iterator) (chars_rest c.next.new.self) c.args.text.now c.in-Some.ensures.steps.0 c.loop-c.invariant.all;
  shown = c.in_ok-push_escaped.ensures ∙ (ap (λ t. t ++ escaped_character c.in-Some.c) c.loop-c.invariant.shown ∙ flat_map_more escaped_character [] c.loop-c.yielded c.in-Some.c);
}
