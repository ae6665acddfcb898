-- A command is read from its line.
use Rattle.std.proofs.Common.{◌≡◌, ℕ, ◌&&◌, true, List, [], ◌∷◌, ◌++◌, Option, Some, None, codes, refl, ap, ◌∙◌}
use Rattle.std.proofs.lemmas.Bool.{and_parts}
use Rattle.std.proofs.lemmas.List.{append-nil}
use Rattle.std.specs.Fmt.{signed_decimal}
use Rattle.rig_history.proofs.LineWords.{after_dot, before_dot, dotted_is_no_name, dotted_is_word, name_is_word, value_is_word, value_read, word_alone, word_on}
use Rattle.rig_history.specs.Commands.{are_bounds, is_grant_line, is_line, is_port, is_value, text_of_bounds, text_of_command, text_of_grant_command}
use Rattle.rig_model.specs.config.Intervals.{Interval, is_in_order}
use Rattle.rig_model.specs.declared.lines.commands.Command.{Command}
use Rattle.rig_model.specs.declared.lines.commands.Command.TheVariants.{Load, Replace, Start, Stop, ShowMode, ShowPort, ShowAll, Trace, Grants}
use Rattle.rig_model.specs.declared.lines.grant_lines.GrantCommand.{GrantCommand}
use Rattle.rig_model.specs.declared.lines.grant_lines.GrantCommand.TheVariants.{Offer, Unoffer, Bind, Unbind, Rows}
use Rattle.rig_model.specs.declared.lines.ports.PortName.{PortName}
use Rattle.rig_model.specs.lines.CommandLine.{command_of_line, port_of_word}
use Rattle.rig_model.specs.lines.Replies.{text_of_port}
use Rattle.rig_model.specs.lines.Words.{words_of}
use Rattle.rig_model.specs.text.Bytes.{is_name}

-- a port's name is a word, and read as itself
port_back : (task : Option (List ℕ)) (name : List ℕ) → is_port (record { task = task; name = name }) ≡ true
    → (words_of (text_of_port (record { task = task; name = name })) ≡ text_of_port (record { task = task; name = name }) ∷ [])
    × (port_of_word (text_of_port (record { task = task; name = name })) ≡ Some (record { task = task; name = name }))
port_back None name e = (word_alone name (name_is_word name e), rw e refl)
port_back (Some t) name e =
    let both = and_parts (is_name t) (is_name name) e in (
      word_alone (t ++ 46 ∷ name) (dotted_is_word t name both.0 both.1),
      rw (dotted_is_no_name t name, before_dot t name both.0, after_dot t name both.0, both.0, both.1) refl,
    )

shown_back : (x : PortName) → is_port x ≡ true → command_of_line (codes "show port " ++ text_of_port x) ≡ Some (ShowPort x)
shown_back x e = let back = port_back x.task x.name e in rw (back.0, back.1) refl

unoffer_back : (a t : List ℕ) → is_name a ≡ true → is_name t ≡ true → command_of_line (text_of_grant_command (Unoffer a t)) ≡ Some (Grants (Unoffer a t))
unoffer_back a t e f =
    let words : words_of (text_of_grant_command (Unoffer a t)) ≡ codes "unoffer" ∷ a ∷ codes "to" ∷ t ∷ [] =
    ap (λ ws. codes "unoffer" ∷ ws) (word_on a (codes "to " ++ t) (name_is_word a e) ∙ ap (λ ws. a ∷ codes "to" ∷ ws) (word_alone t (name_is_word t f))) in
    rw (words, e, f) refl

unbind_back : (s : List ℕ) → is_name s ≡ true → command_of_line (text_of_grant_command (Unbind s)) ≡ Some (Grants (Unbind s))
unbind_back s e = rw (word_alone s (name_is_word s e), e) refl

bind_back : (s t a : List ℕ) → is_name s ≡ true → is_name t ≡ true → is_name a ≡ true → command_of_line (text_of_grant_command (Bind s t a)) ≡ Some (Grants (Bind s t a))
bind_back s t a e f g =
    let words : words_of (text_of_grant_command (Bind s t a)) ≡ codes "bind" ∷ s ∷ codes "from" ∷ (t ++ 46 ∷ a) ∷ [] =
    ap (λ ws. codes "bind" ∷ ws) (word_on s (codes "from " ++ (t ++ 46 ∷ a)) (name_is_word s e) ∙ ap (λ ws. s ∷ codes "from" ∷ ws) (word_alone (t ++ 46 ∷ a) (dotted_is_word t a f g))) in
    rw (words, before_dot t a f, after_dot t a f, e, f, g) refl

offer_back : (a t : List ℕ) (bounds : Option Interval) → is_name a ≡ true → is_name t ≡ true → are_bounds bounds ≡ true
    → command_of_line (text_of_grant_command (Offer a t bounds)) ≡ Some (Grants (Offer a t bounds))
offer_back a t None e f g =
    let words : words_of (text_of_grant_command (Offer a t None)) ≡ codes "offer" ∷ a ∷ codes "to" ∷ t ∷ [] =
    ap (λ ws. codes "offer" ∷ ws) (word_on a (codes "to " ++ (t ++ [])) (name_is_word a e) ∙ ap (λ ws. a ∷ codes "to" ∷ ws) (ap words_of (append-nil t) ∙ word_alone t (name_is_word t f))) in
    rw (words, e, f) refl
offer_back a t (Some i) e f g =
    let parts = and_parts (is_value i.low && is_value i.high) (is_in_order i) g in
    let values = and_parts (is_value i.low) (is_value i.high) parts.0 in
    let low : List ℕ = signed_decimal i.low in
    let high : List ℕ = signed_decimal i.high in
    let words : words_of (text_of_grant_command (Offer a t (Some i))) ≡ codes "offer" ∷ a ∷ codes "to" ∷ t ∷ codes "from" ∷ low ∷ codes "to" ∷ high ∷ [] =
    ap (λ ws. codes "offer" ∷ ws)
    (word_on a (codes "to " ++ (t ++ text_of_bounds (Some i))) (name_is_word a e)
    ∙ ap (λ ws. a ∷ codes "to" ∷ ws)
    (word_on t (codes "from " ++ (low ++ (codes " to " ++ high))) (name_is_word t f)
    ∙ ap (λ ws. t ∷ codes "from" ∷ ws)
    (word_on low (codes "to " ++ high) (value_is_word i.low values.0) ∙ ap (λ ws. low ∷ codes "to" ∷ ws) (word_alone high (value_is_word i.high values.1))))) in
    rw (words, value_read i.low values.0, value_read i.high values.1, parts.1, e, f) refl

grant_back : (c : GrantCommand) → is_grant_line c ≡ true → command_of_line (text_of_grant_command c) ≡ Some (Grants c)
grant_back (Offer a t bounds) e =
    let parts = and_parts (is_name a && is_name t) (are_bounds bounds) e in
    let names = and_parts (is_name a) (is_name t) parts.0 in
    offer_back a t bounds names.0 names.1 parts.1
grant_back (Unoffer a t) e = let names = and_parts (is_name a) (is_name t) e in unoffer_back a t names.0 names.1
grant_back (Bind s t a) e =
    let parts = and_parts (is_name s && is_name t) (is_name a) e in
    let names = and_parts (is_name s) (is_name t) parts.0 in
    bind_back s t a names.0 names.1 parts.1
grant_back (Unbind s) e = unbind_back s e
grant_back Rows e = refl

pub line_back : (c : Command) → is_line c ≡ true → command_of_line (text_of_command c) ≡ Some c
line_back (Load text) e = refl
line_back (Replace text) e = refl
line_back Start e = refl
line_back Stop e = refl
line_back ShowMode e = refl
line_back (ShowPort x) e = shown_back x e
line_back ShowAll e = refl
line_back Trace e = refl
line_back (Grants c) e = grant_back c e
