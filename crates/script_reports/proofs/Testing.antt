-- The tests of a run, one line further.
use Rattle.std.proofs.Common.{◌≡◌, ◌+◌, ◌<◌, ℕ, suc, true, false, List, [], ◌∷◌, ◌++◌, length, take, get_or, Result, Ok, Err, IfOk, String, Global, string_bytes, refl, sym, ap, subst, ◌∙◌, append_assoc, append-nil, arith}
use Rattle.std.proofs.lemmas.List.{take_more, length-take-le}
use Rattle.giotto_tasks.specs.Names.{same_name}
use Rattle.script_reports.specs.cited.Runs.{RunEntry}
use Rattle.script_reports.specs.cited.Reports.{first_words}
use Rattle.script_reports.specs.inner.Differences.{failures_from, text_of_changes}
use Rattle.script_reports.specs.inner.Suites.{AreTests, IsEscaped, IsSuite, IsTest, failed_test, passed_test, suite_of}

-- the test of a line with the reply that it should get, and with a different one
module _ {E : Type 0} (r : Result (String Global) E) (suite came words : List ℕ) (line : RunEntry) (escaped : IsEscaped (first_words line.text) words) where
  pub passes : same_name line.reply came ≡ true → IfOk r (λ text. string_bytes text ≡ passed_test suite line.number words) → IfOk r (λ text. IsTest suite line came (string_bytes text))
  passes same = by r
    where
      by : (r : Result (String Global) E) → IfOk r (λ text. string_bytes text ≡ passed_test suite line.number words) → IfOk r (λ text. IsTest suite line came (string_bytes text))
      by (Err e) h = tt
      by (Ok text) h = (words, escaped, rw same h)

  pub fails : (changes : List ℕ) → IsEscaped (text_of_changes line.reply came) changes → same_name line.reply came ≡ false
      → IfOk r (λ text. string_bytes text ≡ failed_test suite line.number words changes) → IfOk r (λ text. IsTest suite line came (string_bytes text))
  fails changes differs other = by r
    where
      by : (r : Result (String Global) E) → IfOk r (λ text. string_bytes text ≡ failed_test suite line.number words changes) → IfOk r (λ text. IsTest suite line came (string_bytes text))
      by (Err e) h = tt
      by (Ok text) h = (words, escaped, rw other (changes, differs, h))

module _ (suite : List ℕ) (replies : List (List ℕ)) where
  more : (place : ℕ) (lines : List RunEntry) (line : RunEntry) (before told : List ℕ) → AreTests suite replies place lines before → IsTest suite line (get_or replies (place + length lines) []) told
      → AreTests suite replies place (lines ++ line ∷ []) (before ++ told)
  more place [] line before told are test =
      let here : place + 0 ≡ place = omega arith in
      (told, [], subst (λ n. IsTest suite line (get_or replies n []) told) here test, refl, rw are (sym (append-nil told)))
  more place (first ∷ lines) line before told are test =
      let there : place + suc (length lines) ≡ place + 1 + length lines = omega arith in
      (are.0, are.1 ++ told, are.2, more (place + 1) lines line are.1 told are.3 (subst (λ n. IsTest suite line (get_or replies n []) told) there test), ap (λ t. t ++ told) are.4 ∙ append_assoc are.0 are.1 told)

  -- a loop that writes them
  pub tests_more : (lines : List RunEntry) (place : ℕ) (line : RunEntry) (reply before told after : List ℕ) → place < length lines → line ≡ get_or lines place line → reply ≡ get_or replies place []
      → AreTests suite replies 0 (take place lines) before → IsTest suite line reply told → after ≡ before ++ told → AreTests suite replies 0 (take (place + 1) lines) after
  tests_more lines place line reply before told after within item is are test grown =
      let next : take place lines ++ line ∷ [] ≡ take (place + 1) lines = ap (λ l. take place lines ++ l ∷ []) item ∙ sym (take_more lines place line within) in
      let at : place ≡ 0 + length (take place lines) = omega (arith, length-take-le place lines (omega (arith, within))) in
      let here : IsTest suite line (get_or replies (0 + length (take place lines)) []) told = subst (λ r. IsTest suite line r told) (is ∙ ap (λ n. get_or replies n []) at) test in
      subst (λ t. AreTests suite replies 0 (take (place + 1) lines) t) (sym grown)
      (subst (λ ls. AreTests suite replies 0 ls (before ++ told)) next (more 0 (take place lines) line before told are here))

pub told : {E : Type 0} (r : Result (String Global) E) (name suite tests : List ℕ) (lines : List RunEntry) (replies : List (List ℕ)) (count failed : ℕ) → IsEscaped name suite → AreTests suite replies 0 lines tests
    → count ≡ length lines → failed ≡ failures_from replies 0 lines → IfOk r (λ text. string_bytes text ≡ suite_of suite count failed tests) → IfOk r (λ text. IsSuite name lines replies (string_bytes text))
told (Err e) name suite tests lines replies count failed escaped are many fail h = tt
told (Ok text) name suite tests lines replies count failed escaped are many fail h = (suite, tests, escaped, are, rw (← many, ← fail) h)
