use Rattle.std.proofs.Common.{◌≡◌, ◌++◌, string_bytes}
use Rattle.std.specs.List.{flat_map}
use Rattle.std.specs.Str.{encode_utf8_all}
use Rattle.std.specs.Str.Iter.{chars_rest}
use Rattle.script_reports.specs.inner.Suites.{escaped_character}
use Rattle.script_reports.proofs.suites.escaped.Given as goal

abbrev pub invariant-loop-c : goal.invariant-loop-c
invariant-loop-c l = record {
  all : encode_utf8_all l.yielded ++ chars_rest l.c-iterator ≡ l.text;
  shown : string_bytes l.shown ≡ flat_map escaped_character l.yielded;
}
