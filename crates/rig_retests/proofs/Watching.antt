-- The table of links and the lines of the ticks, after one more line.
use Rattle.std.proofs.Common.{◌≡◌, Bool, true, false, ℕ, ◌+◌, suc, ℤ, List, [], ◌∷◌, ◌++◌, length, reverse, Bor, Option, Some, None, Result, Ok, Err, OnOk, refl, sym, ap, subst, ◌∙◌, append_assoc, append-nil, arith}
use Rattle.std.specs.List.{list_any, slice_get}
use Rattle.std.specs.Option.{option_copied}
use Rattle.std.specs.Slice.{IsItemAt}
use Rattle.std.proofs.lemmas.Option.{slice_get_past, slice_get_read}
use Rattle.std.proofs.lemmas.Bool.{ltb-true, ltb-false}
use Rattle.rig_model.specs.config.Roster.{Rig}
use Rattle.rig_model.specs.Base.{Setting, new_base}
use Rattle.rig_model.specs.Script.{line_step, past_after, past_behind}
use Rattle.rig_model.specs.TextLines.{cut}
use Rattle.rig_model.specs.declared.events.Event.{Event}
use Rattle.rig_model.specs.declared.events.Event.TheVariants.{Own, Tick, Done}
use Rattle.rig_retests.specs.Ticks.{gives_tick, number_if, tick_lines_from, tick_lines_of}
use Rattle.rig_retests.specs.inner.Watching.{IsWatching, table_behind}
use Rattle.rig_script.proofs.cited.Behind.{past_more, past_texts}
use Rattle.rig_script.proofs.cited.LineEvents.{is_tick, no_instant, one_instant}
use Rattle.rig_script.proofs.cited.NewScript.{starts}
use Rattle.rig_script.specs.BrokenOff.{ForNewHostReading}
use Rattle.rig_script.specs.Given.{number_behind, texts_of}
use Rattle.rig_script.specs.cited.Heard.{ForHostReading, IsAnsweredAfter}
use Rattle.rig_script.specs.Instants.{is_instant}
use Rattle.rig_script.specs.cited.HostAnswers.{IsHostAfter}
use Rattle.rig_script.specs.cited.Past.{past_behind_all, past_of}
use Rattle.rig_script.specs.declared.listeners.Answered.{Answered}
use Rattle.tenant_sources.specs.Links.{IsLinkTable, Links}
use Rattle.tenant_sources.specs.cited.Additions.{AreAdded, with_links}
use Rattle.tenant_sources.specs.declared.tables.Addition.{Addition}
use Rattle.tenant_sources.specs.host.HostStanding.{HostStanding, Stands}

-- what holds in any case
pub on_ok : {T E : Type 0} (r : Result T E) {P : Type 0} → P → OnOk r P
on_ok (Ok x) h = h
on_ok (Err e) h = tt

-- a table stays over events without an instant
still : (setting : Setting) (past : List Event) (links : Links) (events : List Event) → list_any is_tick events ≡ false → IsLinkTable setting past links → IsLinkTable setting (events ++ past) links
still setting past links [] none h = h
still setting past links (Own t c ∷ events) none h = let rest = still setting past links events none h in record { as_many = rest.as_many; each = rest.each }
still setting past links (Tick frame ∷ events) none h = absurd (cc)
still setting past links (Done job ∷ events) none h = let rest = still setting past links events none h in record { as_many = rest.as_many; each = rest.each }

-- what the next instant adds, from this host on
pub next_of : (setting : Setting) (past : List Event) (host : HostStanding) (links : Links) (added : List Addition) → IsHostAfter setting host past → AreAdded links host added → IsLinkTable setting past links
    → (frame : List ℤ) → IsLinkTable setting (Tick frame ∷ past) (with_links links added)
next_of setting past host links added h adds table = λ frame. adds setting past frame (record { base = h.base; legal = h.legal }) h.stands table

-- the lines of the ticks, with one more line
ticks_more : (setting : Setting) (past : List Event) (n : ℕ) (texts : List (List ℕ)) (text : List ℕ) → tick_lines_from setting past n (texts ++ text ∷ [])
    ≡ tick_lines_from setting past n texts ++ number_if (gives_tick setting (past_behind_all setting past texts) text) (number_behind (n + length texts))
ticks_more setting past n [] text =
    let same : n ≡ n + 0 = omega arith in
    append-nil (number_if (gives_tick setting past text) (number_behind n)) ∙ ap (λ k. number_if (gives_tick setting past text) (number_behind k)) same
ticks_more setting past n (first ∷ texts) text =
    let later = past_behind setting past first in
    let same : n + 1 + length texts ≡ n + suc (length texts) = omega arith in
    let one = number_if (gives_tick setting past first) (number_behind n) in
    ap (λ ls. one ++ ls) (ticks_more setting later (n + 1) texts text ∙ ap (λ k. tick_lines_from setting later (n + 1) texts ++ number_if (gives_tick setting (past_behind_all setting later texts) text) (number_behind k)) same)
    ∙ sym (append_assoc one (tick_lines_from setting later (n + 1) texts) (number_if (gives_tick setting (past_behind_all setting later texts) text) (number_behind (n + suc (length texts)))))

ticks_on : (setting : Setting) (texts : List (List ℕ)) (line : Answered) (before after : List ℕ) → IsAnsweredAfter setting texts line → before ≡ tick_lines_from setting [] 0 texts
    → after ≡ before ++ number_if (is_instant line.events.items) line.number → after ≡ tick_lines_from setting [] 0 (texts ++ line.text.now ∷ [])
ticks_on setting texts line before after is so grown =
    let from_start : length texts ≡ 0 + length texts = omega arith in
    grown
    ∙ (ap (λ ls. ls ++ number_if (is_instant line.events.items) line.number) so
    ∙ (ap (λ (es : List Event). tick_lines_from setting [] 0 texts ++ number_if (is_instant es) line.number) is.events
    ∙ (ap (λ k. tick_lines_from setting [] 0 texts ++ number_if (gives_tick setting (past_of setting texts) line.text.now) k) (is.number ∙ ap number_behind from_start)
    ∙ sym (ticks_more setting [] 0 texts line.text.now))))

-- the table after a line
table_on : (setting : Setting) (texts : List (List ℕ)) (line : Answered) (links : Links) (added : List Addition) (lines : List ℕ) → IsAnsweredAfter setting texts line → IsWatching setting links added lines texts
    → IsLinkTable setting (past_behind setting (past_of setting texts) line.text.now) (table_behind line.events.items links added)
table_on setting texts line links added lines is w = by (is_instant line.events.items) refl
  where
    past : List Event
    past = past_of setting texts

    events : List Event
    events = (line_step setting past line.text.now).events

    by : (b : Bool) → is_instant line.events.items ≡ b → IsLinkTable setting (events ++ past) (table_behind line.events.items links added)
    by true e =
        let tick = one_instant setting past line.text.now (ap is_instant (sym is.events) ∙ e) in
        rw e (subst (λ (es : List Event). IsLinkTable setting (es ++ past) (with_links links added)) (sym tick.1) (w.1 tick.0))
    by false e = rw e (still setting past links events (no_instant setting past line.text.now (ap is_instant (sym is.events) ∙ e)) w.0)

pub watching_on : (setting : Setting) (texts : List (List ℕ)) (line : Answered) (host : HostStanding) (before after : Links) (were are : List Addition) (old new : List ℕ) → IsWatching setting before were old texts
    → IsAnsweredAfter setting texts line → IsHostAfter setting host (past_behind setting (past_of setting texts) line.text.now) → after ≡ table_behind line.events.items before were
    → new ≡ old ++ number_if (is_instant line.events.items) line.number → AreAdded after host are → IsWatching setting after are new (texts ++ line.text.now ∷ [])
watching_on setting texts line host before after were are old new w is stands grown counted adds =
    let later = past_behind setting (past_of setting texts) line.text.now in
    let table : IsLinkTable setting later after = subst (IsLinkTable setting later) (sym grown) (table_on setting texts line before were old is w) in
    let same : later ≡ past_of setting (texts ++ line.text.now ∷ []) = sym (past_more setting [] texts line.text.now) in (
      subst (λ (p : List Event). IsLinkTable setting p after) same table,
      subst (λ (p : List Event). (frame : List ℤ) → IsLinkTable setting (Tick frame ∷ p) (with_links after are)) same (next_of setting later host after are stands adds table),
      ticks_on setting texts line old new is w.2 counted,
    )

-- a new host
pub begins_watching : (setting : Setting) (host : HostStanding) (links : Links) (added : List Addition) → IsHostAfter setting host []
    → ((s : Setting) → length s.config.tenants ≡ length host.config.tenants → IsLinkTable s [] links) → AreAdded links host added → (lines : List ℕ) → lines ≡ [] → IsWatching setting links added lines []
begins_watching setting host links added h table adds lines is =
    let none = table setting (ap (λ (r : Rig). length r.tenants) (sym h.stands.same_config)) in (none, next_of setting [] host links added h adds none, is)

-- the table of a script, from a new host on
pub table_of_new : (host : HostStanding) (config : Rig) → ((setting : Setting) → setting.config ≡ config → Stands setting host (new_base config 0)) → (links : Links) (added : List Addition) (lines : List ℕ) (known : Option (List ℕ))
    → ForHostReading host known (λ setting bytes. IsWatching setting links added lines (texts_of (cut bytes))) → ForNewHostReading config known (λ setting bytes. IsLinkTable setting (past_after setting [] (cut bytes)) links)
table_of_new host config begins links added lines None goes = λ setting of. tt
table_of_new host config begins links added lines (Some bytes) goes = λ setting of.
    subst (λ (p : List Event). IsLinkTable setting p links) (past_texts setting [] (cut bytes)) (goes setting (starts host config begins setting of)).0

-- the lines of its ticks
pub ticks_of_new : (host : HostStanding) (config : Rig) → ((setting : Setting) → setting.config ≡ config → Stands setting host (new_base config 0)) → (links : Links) (added : List Addition) (lines : List ℕ) (known : Option (List ℕ))
    → ForHostReading host known (λ setting bytes. IsWatching setting links added lines (texts_of (cut bytes))) → ForNewHostReading config known (λ setting bytes. lines ≡ tick_lines_of setting bytes)
ticks_of_new host config begins links added lines None goes = λ setting of. tt
ticks_of_new host config begins links added lines (Some bytes) goes = λ setting of. (goes setting (starts host config begins setting of)).2

-- the item of a list that `get` borrows, as a copy
pub copied_at : (xs : List ℕ) (i : ℕ) (r : Option (Bor ℕ)) → IsItemAt xs i r → option_copied r ≡ slice_get xs i
copied_at xs i None h = sym (slice_get_past xs i (ltb-false i (length xs) (sym h.0)))
copied_at xs i (Some b) h = sym (slice_get_read xs (length xs) i b.now refl (ltb-true i (length xs) (sym h.0)) h.1)
