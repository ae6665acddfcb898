-- Forms: how the values of a type are written, and forms that consist of other forms.
use Rattle.std.proofs.Common.{◌≡◌, ◌⊎◌, inl, inr, Bool, true, false, List, [], ◌∷◌, ◌++◌, Option, Some, None, refl, sym, ap, ◌∙◌, subst}
use Rattle.std.specs.Prelude.{◌||◌}
use Rattle.std.specs.List.{flat_map}
use Rattle.std.proofs.lemmas.List.{append_assoc}
use Rattle.giotto_text.specs.declared.tokens.Token.{Token}
use Rattle.giotto_text.specs.Grammar.{Part, token, IsWritten}
use Rattle.giotto_text.specs.Parsing.{end_mark}
use Rattle.giotto_text.specs.Spelling.{SpellsParts, all_spelled, token_spelled, line_spelled, BeginsParts, none_left, token_begun, line_begun}

-- How the values of a type are written.
pub record Form (V : Type 0) : Type 1 where
  -- what is written for a value
  pub parts : V → List Part
  -- some value
  pub some : V
  -- the tokens with which the form could still continue after its end
  pub goes_on : Token → Bool

-- for a form that doesn't continue
abbrev pub closed : Token → Bool
closed t = false

-- a token for each value
abbrev pub one_token : {V : Type 0} → (V → Token) → V → Form V
one_token token_of v = record { parts = λ x. token (token_of x) ∷ []; some = v; goes_on = closed }

-- this token
abbrev pub mark : Token → Form (Unit {0})
mark t = one_token (λ _. t) tt

-- one part
abbrev pub element : {V : Type 0} → (V → Part) → V → (Token → Bool) → Form V
element P v test = record { parts = λ x. P x ∷ []; some = v; goes_on = test }

abbrev pub one : {V : Type 0} → (V → Part) → V → Form V
one P v = element P v closed

-- one form and then another
abbrev pub both : {V W : Type 0} → Form V → Form W → Form (V × W)
both F G = record { parts = λ p. F.parts p.0 ++ G.parts p.1; some = (F.some, G.some); goes_on = G.goes_on }

-- a token and then a form
abbrev pub led : {V : Type 0} → Token → Form V → Form V
led t F = record { parts = λ v. token t ∷ F.parts v; some = F.some; goes_on = F.goes_on }

-- a form and then a token
abbrev pub ended : {V : Type 0} → Form V → Token → Form V
ended F t = record { parts = λ v. F.parts v ++ token t ∷ []; some = F.some; goes_on = closed }

abbrev pub alternatives : {V W : Type 0} → Form V → Form W → V ⊎ W → List Part
alternatives F G (inl v) = F.parts v
alternatives F G (inr w) = G.parts w

-- one form or another
abbrev pub either : {V W : Type 0} → Form V → Form W → (Token → Bool) → Form (V ⊎ W)
either F G test = record { parts = alternatives F G; some = inl F.some; goes_on = test }

-- a form, repeated as long as such a token comes next
abbrev pub many : {V : Type 0} → Form V → (Token → Bool) → Form (List V)
many F test = record { parts = flat_map F.parts; some = []; goes_on = λ t. test t || F.goes_on t }

abbrev pub optional_parts : {V : Type 0} → Form V → Option V → List Part
optional_parts F None = []
optional_parts F (Some v) = F.parts v

-- a form if such a token comes next, or nothing
abbrev pub optional : {V : Type 0} → Form V → (Token → Bool) → Form (Option V)
optional F test = record { parts = optional_parts F; some = None; goes_on = λ t. test t || F.goes_on t }

-- parts that begin with a token, and empty ones

pub first_token_is : (t u : Token) (ts : List Token) (ps : List Part) → BeginsParts (t ∷ ts) (token u ∷ ps) → t ≡ u
first_token_is t u ts ps (token_begun b) = refl
first_token_is t u ts ps (line_begun w b) = elim w [ ]

pub behind_token : (t u : Token) (ts : List Token) (ps : List Part) → BeginsParts (t ∷ ts) (token u ∷ ps) → BeginsParts ts ps
behind_token t u ts ps (token_begun b) = b
behind_token t u ts ps (line_begun w b) = elim w [ ]

pub nothing_begins : (t : Token) (ts : List Token) → ¬ BeginsParts (t ∷ ts) []
nothing_begins t ts b = elim b [ ]

-- spelled tokens followed by a prefix are a prefix
pub begun : {ts : List Token} {ps : List Part} → SpellsParts ts ps → BeginsParts ts ps
begun all_spelled = none_left
begun (token_spelled s) = token_begun (begun s)
begun (line_spelled w s) = line_begun w (begun s)

pub spelled_then : {ts : List Token} {ps : List Part} → SpellsParts ts ps → (us : List Token) (qs : List Part) → BeginsParts us qs → BeginsParts (ts ++ us) (ps ++ qs)
spelled_then all_spelled us qs b = b
spelled_then (token_spelled s) us qs b = token_begun (spelled_then s us qs b)
spelled_then (line_spelled {ts = ts} {ps = ps} {line = line} w s) us qs b = line_begun w (subst (λ x. BeginsParts (ts ++ us) x) (append_assoc line ps qs) (spelled_then s us qs b))

-- what comes next

-- none of these tokens comes next
pub record Excludes (test : Token → Bool) (ps : List Part) : Type 0 where
  pub never : (t : Token) (ts : List Token) → test t ≡ true → ¬ BeginsParts (t ∷ ts) ps

-- the token isn't the first one of these parts, if none of the tested tokens comes after the parts
abbrev pub Fails : (Token → Bool) → Token → List Part → Type 0
Fails test u parts = (us : List Token) (ps : List Part) → Excludes test ps → ¬ BeginsParts (u ∷ us) (parts ++ ps)

abbrev pub IsWider : (Token → Bool) → (Token → Bool) → Type 0
IsWider more less = (t : Token) → less t ≡ true → more t ≡ true

pub or_left : (b c : Bool) → b ≡ true → b || c ≡ true
or_left true c e = refl
or_left false c e = absurd (cc)

pub or_right : (b c : Bool) → c ≡ true → b || c ≡ true
or_right true c e = refl
or_right false c e = e

pub or_false : (b : Bool) → b || false ≡ true → b ≡ true
or_false true e = refl
or_false false e = e

pub wider_closed : (test : Token → Bool) → IsWider test closed
wider_closed test t e = absurd (cc)

pub nothing_excluded : (ps : List Part) → Excludes closed ps
nothing_excluded ps = record { never = λ t ts e b. cc }

pub fewer : (more less : Token → Bool) (ps : List Part) → IsWider more less → Excludes more ps → Excludes less ps
fewer more less ps wider ex = record { never = λ t ts e. ex.never t ts (wider t e) }

-- the second form never begins with a token with which the first could continue
abbrev pub AreApart : {V W : Type 0} → Form V → Form W → Type 0
AreApart {W = W} F G = (x : W) (ps : List Part) → Excludes G.goes_on ps → Excludes F.goes_on (G.parts x ++ ps)

abbrev pub IsClosed : {V : Type 0} → Form V → Type 0
IsClosed F = (t : Token) → F.goes_on t ≡ false

pub apart_closed : {V W : Type 0} (F : Form V) (G : Form W) → IsClosed F → AreApart F G
apart_closed F G is x ps ex = record { never = λ t ts e b. let no : true ≡ false = sym e ∙ is t in cc }

-- each value begins with this token
abbrev pub Begins : {V : Type 0} → Form V → Token → Type 0
Begins {V = V} F first = (t : Token) (us : List Token) (v : V) (ps : List Part) → BeginsParts (t ∷ us) (F.parts v ++ ps) → t ≡ first

pub led_begins : {V : Type 0} (t : Token) (F : Form V) → Begins (led t F) t
led_begins t F u us v ps b = first_token_is u t us (F.parts v ++ ps) b

pub apart_first : {V W : Type 0} (F : Form V) (G : Form W) (first : Token) → Begins G first → F.goes_on first ≡ false → AreApart F G
apart_first F G first begins off x ps ex = record { never = λ t ts e b. let h : true ≡ false = sym e ∙ ap F.goes_on (begins t ts x ps b) ∙ off in cc }

pub apart_mark : {V : Type 0} (F : Form V) (t : Token) → F.goes_on t ≡ false → AreApart F (mark t)
apart_mark F t = apart_first F (mark t) t (λ u us v ps b. first_token_is u t us ps b)

-- Each value is empty or begins with this token.
abbrev pub MayBegin : {V : Type 0} → Form V → Token → Type 0
MayBegin {V = V} F first = (v : V) → (F.parts v ≡ []) ⊎ ((t : Token) (us : List Token) (ps : List Part) → BeginsParts (t ∷ us) (F.parts v ++ ps) → t ≡ first)

pub apart_both : {V W X : Type 0} (F : Form V) (G : Form W) (H : Form X) (first : Token) → MayBegin G first → F.goes_on first ≡ false → AreApart F H → AreApart F (both G H)
apart_both {W = W} {X = X} F G H first may off apart x ps ex = record { never = λ t ts e b. none (may x.0) t ts e (subst (λ y. BeginsParts (t ∷ ts) y) (append_assoc (G.parts x.0) (H.parts x.1) ps) b) }
  where
    none : (G.parts x.0 ≡ []) ⊎ ((t : Token) (us : List Token) (qs : List Part) → BeginsParts (t ∷ us) (G.parts x.0 ++ qs) → t ≡ first) → (t : Token) (ts : List Token) → F.goes_on t ≡ true
        → ¬ BeginsParts (t ∷ ts) (G.parts x.0 ++ (H.parts x.1 ++ ps))
    none (inl empty) t ts e b = (apart x.1 ps ex).never t ts e (subst (λ y. BeginsParts (t ∷ ts) (y ++ (H.parts x.1 ++ ps))) empty b)
    none (inr begins) t ts e b = let h : true ≡ false = sym e ∙ ap F.goes_on (begins t ts (H.parts x.1 ++ ps) b) ∙ off in cc

pub apart_ended : {V W : Type 0} (F : Form V) (G : Form W) (first t : Token) → MayBegin G first → F.goes_on first ≡ false → F.goes_on t ≡ false → AreApart F (ended G t)
apart_ended F G first t may off never v ps ex = apart_both F G (mark t) first may off (apart_mark F t never) (v, tt) ps ex

pub apart_many : {V W : Type 0} (F : Form V) (G : Form W) (test : Token → Bool) (first : Token) → Begins G first → F.goes_on first ≡ false → IsWider (many G test).goes_on F.goes_on → AreApart F (many G test)
apart_many {W = W} F G test first begins off wider xs ps ex = record { never = λ t ts e b. none xs t ts e b }
  where
    none : (ws : List W) (t : Token) (ts : List Token) → F.goes_on t ≡ true → ¬ BeginsParts (t ∷ ts) (flat_map G.parts ws ++ ps)
    none [] t ts e b = ex.never t ts (wider t e) b
    none (w ∷ ws) t ts e b =
        let h : true ≡ false = sym e ∙ ap F.goes_on (begins t ts w (flat_map G.parts ws ++ ps) (subst (λ y. BeginsParts (t ∷ ts) y) (append_assoc (G.parts w) (flat_map G.parts ws) ps) b)) ∙ off in cc

-- Each repetition begins with one of these tokens and doesn't continue with one of them, and the end mark isn't one.
pub record Repeats {V : Type 0} (F : Form V) (first : Token → Bool) : Type 0 where
  pub starts : (t : Token) (us : List Token) (v : V) (ps : List Part) → BeginsParts (t ∷ us) (F.parts v ++ ps) → first t ≡ true
  pub apart : (t : Token) → first t ≡ true → F.goes_on t ≡ false
  pub other : first end_mark ≡ false

-- One form in terms of another: what F writes for v, G writes for (h v), and G writes nothing else.
pub record Writes {V W : Type 0} (F : Form V) (G : Form W) (h : V → W) : Type 0 where
  pub spells : (v : V) (ts : List Token) (ps : List Part) → SpellsParts ts (F.parts v ++ ps) → SpellsParts ts (G.parts (h v) ++ ps)
  pub begins : (v : V) (ts : List Token) (ps : List Part) → BeginsParts ts (F.parts v ++ ps) → BeginsParts ts (G.parts (h v) ++ ps)
  pub only : (w : W) (ts : List Token) (ps : List Part) → BeginsParts ts (G.parts w ++ ps) → (v : V) × BeginsParts ts (F.parts v ++ ps)
  pub again : (w : W) (ts : List Token) (ps : List Part) → SpellsParts ts (G.parts w ++ ps) → (v : V) × (w ≡ h v) × SpellsParts ts (F.parts v ++ ps)
  pub on : IsWider G.goes_on F.goes_on

abbrev is_token : Part → Bool
is_token (token t) = true
is_token p = false

begun_from : {V : Type 0} (F : Form V) {p : Part} {ts : List Token} {ps : List Part} → is_token p ≡ false → ((line : List Part) → IsWritten p line → (v : V) × (line ≡ F.parts v))
    → BeginsParts ts (p ∷ ps) → (v : V) × BeginsParts ts (F.parts v ++ ps)
begun_from F plain from none_left = (F.some, none_left)
begun_from F plain from (token_begun b) = absurd (cc)
begun_from F {ps = ps} plain from (line_begun {ts = ts} {line = line} w b) = let h = from line w in (h.0, subst (λ x. BeginsParts ts (x ++ ps)) h.1 b)

spelled_from : {V W : Type 0} (F : Form V) (w : W) (h : V → W) {p : Part} {ts : List Token} {ps : List Part} → is_token p ≡ false → ((line : List Part) → IsWritten p line → (v : V) × (w ≡ h v) × (line ≡ F.parts v))
    → SpellsParts ts (p ∷ ps) → (v : V) × (w ≡ h v) × SpellsParts ts (F.parts v ++ ps)
spelled_from F w h plain from (token_spelled s) = absurd (cc)
spelled_from F w h {ps = ps} plain from (line_spelled {ts = ts} {line = line} l s) = let k = from line l in (k.0, k.1, subst (λ x. SpellsParts ts (x ++ ps)) k.2 s)

-- what the grammar writes for a part is exactly what this form writes
pub line_writes : {V W : Type 0} {F : Form V} {P : W → Part} {d : W} {test : Token → Bool} {h : V → W} → ((w : W) → is_token (P w) ≡ false) → ((v : V) → IsWritten (P (h v)) (F.parts v))
    → ((w : W) (line : List Part) → IsWritten (P w) line → (v : V) × (w ≡ h v) × (line ≡ F.parts v)) → IsWider test F.goes_on → Writes F (element P d test) h
line_writes {F = F} {h = h} plain is from on =
    record {
      spells = λ v ts ps s. line_spelled (is v) s;
      begins = λ v ts ps b. line_begun (is v) b;
      only = λ w ts ps b. begun_from F (plain w) (λ line l. let k = from w line l in (k.0, k.2)) b;
      again = λ w ts ps s. spelled_from F w h (plain w) (from w) s;
      on = on;
    }

-- the same parts, and each value of G has one of F
pub same_writes : {V W : Type 0} {F : Form V} {G : Form W} {h : V → W} → ((v : V) → F.parts v ≡ G.parts (h v)) → ((w : W) → (v : V) × (w ≡ h v)) → IsWider G.goes_on F.goes_on → Writes F G h
same_writes {V = V} {W = W} {F = F} {G = G} {h = h} same from on =
    record {
      spells = λ v ts ps s. subst (λ x. SpellsParts ts (x ++ ps)) (same v) s;
      begins = λ v ts ps b. subst (λ x. BeginsParts ts (x ++ ps)) (same v) b;
      only = λ w ts ps b. ((from w).0, subst (λ x. BeginsParts ts (x ++ ps)) (back w) b);
      again = λ w ts ps s. ((from w).0, (from w).1, subst (λ x. SpellsParts ts (x ++ ps)) (back w) s);
      on = on;
    }
  where
    back : (w : W) → G.parts w ≡ F.parts (from w).0
    back w = ap G.parts (from w).1 ∙ sym (same (from w).0)
