-- The steps of the parser, each as a lemma: one token, one parser after another, one of two, repetition.
use Rattle.std.proofs.Common.{◌≡◌, ◌≢◌, ℕ, zero, suc, ◌<◌, ◌≤◌, ◌⊎◌, inl, inr, Bool, true, false, List, [], ◌∷◌, ◌++◌, length, Option, Some, None, refl, sym, ap, ◌∙◌, subst, arith, length-append}
use Rattle.std.proofs.lemmas.List.{append_assoc, append-nil, map-append}
use Rattle.std.specs.List.{flat_map}
use Rattle.giotto_text.specs.declared.tokens.PlacedToken.{PlacedToken}
use Rattle.giotto_text.specs.declared.tokens.Token.{Token}
use Rattle.giotto_text.specs.Grammar.{Part, token}
use Rattle.giotto_text.specs.Parsing.{end_mark, Outcome, got, stopped, Parser, done, behind, ◌>>=◌, next_of, taken, read_one, pick, if_next, up_to, many as read_many}
use Rattle.giotto_text.specs.Spelling.{SpellsParts, all_spelled, token_spelled, line_spelled, BeginsParts, none_left, token_begun}
use Rattle.giotto_text.specs.Tokens.{bare}
use Rattle.giotto_text.proofs.Forms.{Form, closed, one_token, both, either, many, optional, Excludes, Fails, IsWider, AreApart, IsClosed, Repeats, Writes, first_token_is, behind_token, begun, spelled_then, fewer, or_left, or_right, apart_closed}

-- the tokens that a form takes, before the next token

-- the tokens begin with this one, unless there are none
abbrev pub Follows : List Token → Token → Type 0
Follows [] next = Unit {0}
Follows (u ∷ us) next = u ≡ next

abbrev pub first_or : List Token → Token → Token
first_or [] next = next
first_or (t ∷ ts) next = t

-- The tokens spell this value, and anything else the form could read here also ends before the next token.
pub record Spans {V : Type 0} (F : Form V) (front : List Token) (v : V) (next : Token) : Type 0 where
  pub spells : (us : List Token) (ps : List Part) → SpellsParts us ps → SpellsParts (front ++ us) (F.parts v ++ ps)
  pub begins : (us : List Token) (ps : List Part) → BeginsParts us ps → BeginsParts (front ++ us) (F.parts v ++ ps)
  pub only : (us : List Token) (w : V) (ps : List Part) → Follows us next → Excludes F.goes_on ps → BeginsParts (front ++ us) (F.parts w ++ ps) → BeginsParts us ps
  pub one : (us : List Token) (w : V) (ps : List Part) → Excludes F.goes_on ps → SpellsParts (front ++ next ∷ us) (F.parts w ++ ps) → (w ≡ v) × SpellsParts (next ∷ us) ps

-- The tokens begin what is written for some value, and with the next token they begin what is written for none.
pub record Breaks {V : Type 0} (F : Form V) (front : List Token) (next : Token) : Type 0 where
  pub value : V
  pub begins : (ps : List Part) → BeginsParts front (F.parts value ++ ps)
  pub fault : (us : List Token) (w : V) (ps : List Part) → Excludes F.goes_on ps → ¬ BeginsParts (front ++ next ∷ us) (F.parts w ++ ps)

follows_on : (front us : List Token) (next : Token) → Follows us next → Follows (front ++ us) (first_or front next)
follows_on [] us next h = h
follows_on (t ∷ front) us next h = refl

-- parts that can't begin with the first token
other_only : (front us : List Token) (next : Token) (qs ps : List Part) → Follows us next → ((xs : List Token) → ¬ BeginsParts (first_or front next ∷ xs) qs) → BeginsParts (front ++ us) qs → BeginsParts us ps
other_only [] [] next qs ps h bad b = none_left
other_only [] (u ∷ us) next qs ps h bad b = absurd (bad us (subst (λ x. BeginsParts (x ∷ us) qs) h b))
other_only (t ∷ front) us next qs ps h bad b = absurd (bad (front ++ us) b)

not_begun : (front us : List Token) (next : Token) (qs : List Part) → ((xs : List Token) → ¬ BeginsParts (first_or front next ∷ xs) qs) → ¬ BeginsParts (front ++ next ∷ us) qs
not_begun [] us next qs bad b = bad us b
not_begun (t ∷ front) us next qs bad b = bad (front ++ next ∷ us) b

behind_first : {t u : Token} {ts : List Token} {ps : List Part} → SpellsParts (t ∷ ts) (token u ∷ ps) → (t ≡ u) × SpellsParts ts ps
behind_first (token_spelled s) = (refl, s)
behind_first (line_spelled w s) = elim w [ ]

first_and_tail : (front us : List Token) (next : Token) → (tail : List Token) × (front ++ next ∷ us ≡ first_or front next ∷ tail)
first_and_tail [] us next = (us, refl)
first_and_tail (t ∷ front) us next = (front ++ next ∷ us, refl)

abbrev pub Injective : {V : Type 0} → (V → Token) → Type 0
Injective {V = V} token_of = (v w : V) → token_of v ≡ token_of w → v ≡ w

spans_token : {V : Type 0} (token_of : V → Token) (d v : V) (next : Token) → Injective token_of → Spans (one_token token_of d) (token_of v ∷ []) v next
spans_token token_of d v next same =
    record {
      one = λ us w ps ex s. let h = behind_first s in (same w v (sym h.0), h.1);
      spells = λ us ps s. token_spelled s;
      begins = λ us ps b. token_begun b;
      only = λ us w ps fol ex b. behind_token (token_of v) (token_of w) us ps b;
    }

pub breaks_here : {V : Type 0} (F : Form V) (next : Token) → ((w : V) → Fails F.goes_on next (F.parts w)) → Breaks F [] next
breaks_here F next bad = record { value = F.some; begins = λ ps. none_left; fault = λ us w ps ex b. bad w us ps ex b }

same_both : {V W : Type 0} {x : V × W} {v : V} {w : W} → x.0 ≡ v → x.1 ≡ w → x ≡ (v, w)
same_both {x = x} {v = v} e f = ap (λ y. (y, x.1)) e ∙ ap (λ y. (v, y)) f

spans_both : {V W : Type 0} (F : Form V) (G : Form W) (ff gf : List Token) (v : V) (w : W) (next : Token) → AreApart F G
    → Spans F ff v (first_or gf next) → Spans G gf w next → Spans (both F G) (ff ++ gf) (v, w) next
spans_both {V = V} {W = W} F G ff gf v w next apart f g =
    record {
      spells = λ us ps s. rw (append_assoc ff gf us, append_assoc (F.parts v) (G.parts w) ps) (f.spells (gf ++ us) (G.parts w ++ ps) (g.spells us ps s));
      begins = λ us ps b. rw (append_assoc ff gf us, append_assoc (F.parts v) (G.parts w) ps) (f.begins (gf ++ us) (G.parts w ++ ps) (g.begins us ps b));
      only = λ us x ps fol ex b.
          g.only us x.1 ps fol ex (f.only (gf ++ us) x.0 (G.parts x.1 ++ ps) (follows_on gf us next fol) (apart x.1 ps ex) (rw (append_assoc ff gf us, append_assoc (F.parts x.0) (G.parts x.1) ps) at b));
      one = one;
    }
  where
    one : (us : List Token) (x : V × W) (ps : List Part) → Excludes G.goes_on ps → SpellsParts ((ff ++ gf) ++ next ∷ us) ((F.parts x.0 ++ G.parts x.1) ++ ps) → (x ≡ (v, w)) × SpellsParts (next ∷ us) ps
    one us x ps ex s =
        let cut = first_and_tail gf us next in
        let whole = subst (λ y. SpellsParts (ff ++ y) (F.parts x.0 ++ (G.parts x.1 ++ ps))) cut.1 (rw (append_assoc ff gf (next ∷ us), append_assoc (F.parts x.0) (G.parts x.1) ps) at s) in
        let a = f.one cut.0 x.0 (G.parts x.1 ++ ps) (apart x.1 ps ex) whole in
        let b = g.one us x.1 ps ex (subst (λ y. SpellsParts y (G.parts x.1 ++ ps)) (sym cut.1) a.1) in
        (same_both a.0 b.0, b.1)

breaks_first : {V W : Type 0} (F : Form V) (G : Form W) (front : List Token) (next : Token) → AreApart F G → Breaks F front next → Breaks (both F G) front next
breaks_first F G front next apart f =
    record {
      value = (f.value, G.some);
      begins = λ ps. rw append_assoc (f.begins (G.parts G.some ++ ps));
      fault = λ us x ps ex b. f.fault us x.0 (G.parts x.1 ++ ps) (apart x.1 ps ex) (rw append_assoc at b);
    }

breaks_second : {V W : Type 0} (F : Form V) (G : Form W) (ff gf : List Token) (v : V) (next : Token) → AreApart F G
    → Spans F ff v (first_or gf next) → Breaks G gf next → Breaks (both F G) (ff ++ gf) next
breaks_second F G ff gf v next apart f g =
    record {
      value = (v, g.value);
      begins = λ ps. rw append_assoc (f.begins gf (G.parts g.value ++ ps) (g.begins ps));
      fault = λ us x ps ex b.
          let whole = rw (append_assoc ff gf (next ∷ us), append_assoc (F.parts x.0) (G.parts x.1) ps) at b in
          g.fault us x.1 ps ex (f.only (gf ++ next ∷ us) x.0 (G.parts x.1 ++ ps) (follows_on gf (next ∷ us) next refl) (apart x.1 ps ex) whole);
    }

-- the result of a parser

-- The outcome is right: the tokens before the rest spell the value, or the first token of the rest is the fault.
pub data Right {V T : Type 0} (F : Form V) (f : V → T) (ts : List PlacedToken) : Outcome T → Type 0 where
  came : (front rest : List PlacedToken) (v : V) {x : T} → ts ≡ front ++ rest → x ≡ f v → Spans F (bare front) v (next_of rest) → Right F f ts (got x rest)
  broke : (front rest : List PlacedToken) → ts ≡ front ++ rest → Breaks F (bare front) (next_of rest) → Right F f ts (stopped rest)

-- the outcome is right for all lists of fewer than n tokens
abbrev pub Parses : {V T : Type 0} → ℕ → Form V → (V → T) → Parser T → Type 0
Parses n F f p = (ts : List PlacedToken) → length ts < n → Right F f ts (p ts)

next_first : (front rest : List PlacedToken) → next_of (front ++ rest) ≡ first_or (bare front) (next_of rest)
next_first [] rest = refl
next_first (t ∷ front) rest = refl

first_of : {ts : List PlacedToken} (front rest : List PlacedToken) → ts ≡ front ++ rest → first_or (bare front) (next_of rest) ≡ next_of ts
first_of front rest e = sym (next_first front rest) ∙ ap next_of (sym e)

rest_shorter : {ts : List PlacedToken} (front rest : List PlacedToken) → ts ≡ front ++ rest → length rest ≤ length ts
rest_shorter front rest e = omega (arith, ap length e, length-append front rest)

-- one token

pub one_right : {V T : Type 0} {n : ℕ} (token_of : V → Token) (d : V) (g : V → T) (f : Token → Option T)
    → ((t : Token) (x : T) → f t ≡ Some x → (v : V) × (x ≡ g v) × (t ≡ token_of v)) → ((v : V) → f (token_of v) ≢ None) → f end_mark ≡ None → Injective token_of → Parses n (one_token token_of d) g (read_one f)
one_right {V = V} {T = T} {n = n} token_of d g f some none end same = at
  where
    refuses : (t : Token) → f t ≡ None → (w : V) → Fails closed t (token (token_of w) ∷ [])
    refuses t e w us ps ex b = none w (ap f (sym (first_token_is t (token_of w) us ps b)) ∙ e)

    by : (t : PlacedToken) (ts : List PlacedToken) (o : Option T) → f t.token ≡ o → Right (one_token token_of d) g (t ∷ ts) (taken o ts (t ∷ ts))
    by t ts (Some x) e = let h = some t.token x e in came (t ∷ []) ts h.0 refl h.1 (subst (λ y. Spans (one_token token_of d) (y ∷ []) h.0 (next_of ts)) (sym h.2) (spans_token token_of d h.0 (next_of ts) same))
    by t ts None e = broke [] (t ∷ ts) refl (breaks_here (one_token token_of d) t.token (refuses t.token e))

    at : (ts : List PlacedToken) → length ts < n → Right (one_token token_of d) g ts (read_one f ts)
    at [] lt = broke [] [] refl (breaks_here (one_token token_of d) end_mark (refuses end_mark end))
    at (t ∷ ts) lt = by t ts (f t.token) refl

-- one parser after another

pub behind_right : {V W S T : Type 0} {F : Form V} {G : Form W} {f : V → S} {g : V × W → T} {ts : List PlacedToken} {o : Outcome S} (q : S → Parser T) → AreApart F G → Right F f ts o
    → ((v : V) (front rest : List PlacedToken) → ts ≡ front ++ rest → Spans F (bare front) v (next_of rest) → Right G (λ w. g (v, w)) rest (q (f v) rest)) → Right (both F G) g ts (behind o q)
behind_right {V = V} {W = W} {S = S} {T = T} {F = F} {G = G} {f = f} {g = g} {ts = ts} q apart (came front rest v {x = x} is value spans) next =
    second (q x rest) (subst (λ y. Right G (λ w. g (v, w)) rest (q y rest)) (sym value) (next v front rest is spans))
  where
    whole : (more last : List PlacedToken) → rest ≡ more ++ last → ts ≡ (front ++ more) ++ last
    whole more last e = is ∙ ap (λ y. front ++ y) e ∙ sym (append_assoc front more last)

    before : (more last : List PlacedToken) → rest ≡ more ++ last → Spans F (bare front) v (first_or (bare more) (next_of last))
    before more last e = subst (Spans F (bare front) v) (sym (first_of more last e)) spans

    second : (o : Outcome T) → Right G (λ w. g (v, w)) rest o → Right (both F G) g ts o
    second _ (came more last w is_more value_more spans_more) =
        came (front ++ more) last (v, w) (whole more last is_more) value_more
        (subst (λ z. Spans (both F G) z (v, w) (next_of last)) (sym (map-append (λ p. p.token) front more)) (spans_both F G (bare front) (bare more) v w (next_of last) apart (before more last is_more) spans_more))
    second _ (broke more last is_more breaks) =
        broke (front ++ more) last (whole more last is_more)
        (subst (λ z. Breaks (both F G) z (next_of last)) (sym (map-append (λ p. p.token) front more)) (breaks_second F G (bare front) (bare more) v (next_of last) apart (before more last is_more) breaks))
behind_right {F = F} {G = G} q apart (broke front rest is breaks) next = broke front rest is (breaks_first F G (bare front) (next_of rest) apart breaks)

pub bind_apart : {V W S T : Type 0} {n : ℕ} {F : Form V} {G : Form W} {f : V → S} {g : V × W → T} {p : Parser S} (q : S → Parser T) → AreApart F G
    → Parses n F f p → ((v : V) → Parses n G (λ w. g (v, w)) (q (f v))) → Parses n (both F G) g (p >>= q)
bind_apart q apart hp hq ts lt = behind_right q apart (hp ts lt) (λ v front rest is spans. let le = rest_shorter front rest is in hq v rest (omega arith))

pub bind : {V W S T : Type 0} {n : ℕ} {F : Form V} {G : Form W} {f : V → S} {g : V × W → T} {p : Parser S} (q : S → Parser T) → IsClosed F
    → Parses n F f p → ((v : V) → Parses n G (λ w. g (v, w)) (q (f v))) → Parses n (both F G) g (p >>= q)
bind {F = F} {G = G} q closed hp hq = bind_apart q (apart_closed F G closed) hp hq

-- the same parser with another value

pub mapped : {V S T : Type 0} {n : ℕ} {F : Form V} {f : V → S} {g : V → T} {p : Parser S} (q : S → Parser T)
    → Parses n F f p → ((v : V) (ts : List PlacedToken) → q (f v) ts ≡ got (g v) ts) → Parses n F g (p >>= q)
mapped {S = S} {T = T} {F = F} {f = f} {g = g} {p = p} q hp same ts lt = by (p ts) (hp ts lt)
  where
    by : (o : Outcome S) → Right F f ts o → Right F g ts (behind o q)
    by _ (came front rest v is value spans) = subst (Right F g ts) (sym (ap (λ x. q x rest) value ∙ same v rest)) (came front rest v is refl spans)
    by _ (broke front rest is breaks) = broke front rest is breaks

-- One form in terms of another.
pub parsed_as : {V W T : Type 0} {n : ℕ} {F : Form V} {G : Form W} {h : V → W} {f : W → T} {p : Parser T} → Writes F G h → Parses n F (λ v. f (h v)) p → Parses n G f p
parsed_as {T = T} {F = F} {G = G} {h = h} {f = f} {p = p} w hp ts lt = by (p ts) (hp ts lt)
  where
    by : (o : Outcome T) → Right F (λ v. f (h v)) ts o → Right G f ts o
    by _ (came front rest v is value spans) =
        came front rest (h v) is value (record {
          spells = λ us ps s. w.spells v (bare front ++ us) ps (spans.spells us ps s);
          begins = λ us ps b. w.begins v (bare front ++ us) ps (spans.begins us ps b);
          only = λ us y ps fol ex b. let x = w.only y (bare front ++ us) ps b in spans.only us x.0 ps fol (fewer G.goes_on F.goes_on ps w.on ex) x.1;
          one = λ us y ps ex s.
              let x = w.again y (bare front ++ next_of rest ∷ us) ps s in
              let a = spans.one us x.0 ps (fewer G.goes_on F.goes_on ps w.on ex) x.2 in
              (x.1 ∙ ap h a.0, a.1);
        })
    by _ (broke front rest is breaks) =
        broke front rest is (record {
          value = h breaks.value;
          begins = λ ps. w.begins breaks.value (bare front) ps (breaks.begins ps);
          fault = λ us y ps ex b. let x = w.only y (bare front ++ next_of rest ∷ us) ps b in breaks.fault us x.0 ps (fewer G.goes_on F.goes_on ps w.on ex) x.1;
        })

-- one of the ways to write a form

-- F's values are among H's, and none of H's other values begins with this token.
record Includes {V X : Type 0} (F : Form V) (H : Form X) (i : V → X) (first : Token) : Type 0 where
  same : (v : V) → F.parts v ≡ H.parts (i v)
  wider : IsWider H.goes_on F.goes_on
  other : (x : X) → ((v : V) × (x ≡ i v)) ⊎ Fails H.goes_on first (H.parts x)

spans_in : {V X : Type 0} {F : Form V} {H : Form X} {i : V → X} (front : List Token) (v : V) (next : Token) → Includes F H i (first_or front next) → Spans F front v next → Spans H front (i v) next
spans_in {V = V} {X = X} {F = F} {H = H} {i = i} front v next inc f =
    record {
      spells = λ us ps s. subst (λ y. SpellsParts (front ++ us) (y ++ ps)) (inc.same v) (f.spells us ps s);
      begins = λ us ps b. subst (λ y. BeginsParts (front ++ us) (y ++ ps)) (inc.same v) (f.begins us ps b);
      only = λ us x ps. only us x ps (inc.other x);
      one = λ us x ps. one us x ps (inc.other x);
    }
  where
    only : (us : List Token) (x : X) (ps : List Part) → ((w : V) × (x ≡ i w)) ⊎ Fails H.goes_on (first_or front next) (H.parts x) → Follows us next → Excludes H.goes_on ps → BeginsParts (front ++ us) (H.parts x ++ ps) → BeginsParts us ps
    only us x ps (inl w) fol ex b = f.only us w.0 ps fol (fewer H.goes_on F.goes_on ps inc.wider ex) (subst (λ y. BeginsParts (front ++ us) (y ++ ps)) (ap H.parts w.1 ∙ sym (inc.same w.0)) b)
    only us x ps (inr bad) fol ex b = other_only front us next (H.parts x ++ ps) ps fol (λ xs. bad xs ps ex) b

    one : (us : List Token) (x : X) (ps : List Part) → ((w : V) × (x ≡ i w)) ⊎ Fails H.goes_on (first_or front next) (H.parts x) → Excludes H.goes_on ps → SpellsParts (front ++ next ∷ us) (H.parts x ++ ps) → (x ≡ i v) × SpellsParts (next ∷ us) ps
    one us x ps (inl w) ex s =
        let a = f.one us w.0 ps (fewer H.goes_on F.goes_on ps inc.wider ex) (subst (λ y. SpellsParts (front ++ next ∷ us) (y ++ ps)) (ap H.parts w.1 ∙ sym (inc.same w.0)) s) in
        (w.1 ∙ ap i a.0, a.1)
    one us x ps (inr bad) ex s = absurd (not_begun front us next (H.parts x ++ ps) (λ xs. bad xs ps ex) (begun s))

breaks_in : {V X : Type 0} {F : Form V} {H : Form X} {i : V → X} (front : List Token) (next : Token) → Includes F H i (first_or front next) → Breaks F front next → Breaks H front next
breaks_in {V = V} {X = X} {F = F} {H = H} {i = i} front next inc f =
    record {
      value = i f.value;
      begins = λ ps. subst (λ y. BeginsParts front (y ++ ps)) (inc.same f.value) (f.begins ps);
      fault = λ us x ps. fault us x ps (inc.other x);
    }
  where
    fault : (us : List Token) (x : X) (ps : List Part) → ((w : V) × (x ≡ i w)) ⊎ Fails H.goes_on (first_or front next) (H.parts x) → Excludes H.goes_on ps → ¬ BeginsParts (front ++ next ∷ us) (H.parts x ++ ps)
    fault us x ps (inl w) ex b = f.fault us w.0 ps (fewer H.goes_on F.goes_on ps inc.wider ex) (subst (λ y. BeginsParts (front ++ next ∷ us) (y ++ ps)) (ap H.parts w.1 ∙ sym (inc.same w.0)) b)
    fault us x ps (inr bad) ex b = not_begun front us next (H.parts x ++ ps) (λ xs. bad xs ps ex) b

right_in : {V X T : Type 0} {F : Form V} {H : Form X} {i : V → X} {f : X → T} {ts : List PlacedToken} {o : Outcome T} → Includes F H i (next_of ts) → Right F (λ v. f (i v)) ts o → Right H f ts o
right_in {F = F} {H = H} {i = i} inc (came front rest v is value spans) =
    came front rest (i v) is value (spans_in (bare front) v (next_of rest) (subst (Includes F H i) (sym (first_of front rest is)) inc) spans)
right_in {F = F} {H = H} {i = i} inc (broke front rest is breaks) = broke front rest is (breaks_in (bare front) (next_of rest) (subst (Includes F H i) (sym (first_of front rest is)) inc) breaks)

-- nothing at all
abbrev nothing : Form (Unit {0})
nothing = record { parts = λ _. []; some = tt; goes_on = closed }

nothing_right : {T : Type 0} {f : Unit {0} → T} (ts : List PlacedToken) → Right nothing f ts (got (f tt) ts)
nothing_right ts = came [] ts tt refl refl (record { spells = λ us ps s. s; begins = λ us ps b. b; only = λ us w ps fol ex b. b; one = λ us w ps ex s. (refl, s) })

-- one of two

pub either_parses : {V W T : Type 0} {n : ℕ} {F : Form V} {G : Form W} {on : Token → Bool} {f : V ⊎ W → T} {p q : Parser T} {test : Token → Bool}
    → IsWider on F.goes_on → IsWider on G.goes_on → ((t : Token) → test t ≡ true → (w : W) → Fails on t (G.parts w)) → ((t : Token) → test t ≡ false → (v : V) → Fails on t (F.parts v))
    → Parses n F (λ v. f (inl v)) p → Parses n G (λ w. f (inr w)) q → Parses n (either F G on) f (if_next test p q)
either_parses {V = V} {W = W} {T = T} {F = F} {G = G} {on = on} {f = f} {p = p} {q = q} {test = test} left_wider right_wider not_right not_left hp hq ts lt = by (test (next_of ts)) refl
  where
    left_or : test (next_of ts) ≡ true → (x : V ⊎ W) → ((v : V) × (x ≡ inl v)) ⊎ Fails on (next_of ts) ((either F G on).parts x)
    left_or e (inl v) = inl (v, refl)
    left_or e (inr w) = inr (not_right (next_of ts) e w)

    right_or : test (next_of ts) ≡ false → (x : V ⊎ W) → ((w : W) × (x ≡ inr w)) ⊎ Fails on (next_of ts) ((either F G on).parts x)
    right_or e (inl v) = inr (not_left (next_of ts) e v)
    right_or e (inr w) = inl (w, refl)

    by : (b : Bool) → test (next_of ts) ≡ b → Right (either F G on) f ts (pick b p q ts)
    by true e = right_in (record { same = λ v. refl; wider = left_wider; other = left_or e }) (hp ts lt)
    by false e = right_in (record { same = λ v. refl; wider = right_wider; other = right_or e }) (hq ts lt)

-- an optional form

pub optional_parses : {V T : Type 0} {n : ℕ} {F : Form V} {f : Option V → T} {p q : Parser T} {test : Token → Bool} → ((t : Token) → test t ≡ false → (v : V) → Fails (optional F test).goes_on t (F.parts v))
    → Parses n F (λ v. f (Some v)) p → ((ts : List PlacedToken) → q ts ≡ got (f None) ts) → Parses n (optional F test) f (if_next test p q)
optional_parses {V = V} {T = T} {F = F} {f = f} {p = p} {q = q} {test = test} other hp hq ts lt = by (test (next_of ts)) refl
  where
    some_or : test (next_of ts) ≡ true → (x : Option V) → ((v : V) × (x ≡ Some v)) ⊎ Fails (optional F test).goes_on (next_of ts) ((optional F test).parts x)
    some_or e (Some v) = inl (v, refl)
    some_or e None = inr (λ us ps ex b. ex.never (next_of ts) us (or_left (test (next_of ts)) (F.goes_on (next_of ts)) e) b)

    none_or : test (next_of ts) ≡ false → (x : Option V) → ((u : Unit {0}) × (x ≡ None)) ⊎ Fails (optional F test).goes_on (next_of ts) ((optional F test).parts x)
    none_or e (Some v) = inr (other (next_of ts) e v)
    none_or e None = inl (tt, refl)

    by : (b : Bool) → test (next_of ts) ≡ b → Right (optional F test) f ts (pick b p q ts)
    by true e = right_in (record { same = λ v. refl; wider = λ t. or_right (test t) (F.goes_on t); other = some_or e }) (hp ts lt)
    by false e = subst (Right (optional F test) f ts) (sym (hq ts)) (right_in {i = λ u. None} (record { same = λ u. refl; wider = λ t h. absurd (cc); other = none_or e }) (nothing_right ts))

-- repetition

-- each repetition takes at least one token
pub moves : {V : Type 0} {F : Form V} {first : Token → Bool} (front rest : List PlacedToken) {ts : List PlacedToken} {v : V} → Repeats F first → ts ≡ front ++ rest → Spans F (bare front) v (next_of rest) → length rest < length ts
moves {F = F} [] rest {v = v} rep is f =
    let b : BeginsParts (end_mark ∷ []) (F.parts v ++ token end_mark ∷ []) =
    subst (λ x. BeginsParts (end_mark ∷ []) (x ++ token end_mark ∷ [])) (append-nil (F.parts v)) (spelled_then (f.spells [] [] all_spelled) (end_mark ∷ []) (token end_mark ∷ []) (token_begun none_left)) in
    let no : true ≡ false = sym (rep.starts end_mark [] v (token end_mark ∷ []) b) ∙ rep.other in absurd (cc)
moves (t ∷ front) rest rep is f = omega (arith, ap length is, length-append front rest)

many_apart : {V : Type 0} (F : Form V) (first test : Token → Bool) → Repeats F first → AreApart F (many F test)
many_apart {V = V} F first test rep xs ps ex = record { never = λ t ts on b. none xs t ts on b }
  where
    none : (ws : List V) (t : Token) (ts : List Token) → F.goes_on t ≡ true → ¬ BeginsParts (t ∷ ts) (flat_map F.parts ws ++ ps)
    none [] t ts on b = ex.never t ts (or_right (test t) (F.goes_on t) on) b
    none (w ∷ ws) t ts on b = let no : true ≡ false = sym on ∙ rep.apart t (rep.starts t ts w (flat_map F.parts ws ++ ps) (rw append_assoc at b)) in cc

pub many_parses : {V : Type 0} {n : ℕ} {F : Form V} {first : Token → Bool} {p : Parser V} {test : Token → Bool}
    → Repeats F first → ((t : Token) → test t ≡ false → first t ≡ false) → Parses n F (λ v. v) p → Parses n (many F test) (λ vs. vs) (read_many test p)
many_parses {V = V} {n = n} {F = F} {first = first} {p = p} {test = test} rep narrow hp ts lt = go (suc (length ts)) ts (omega arith) lt
  where
    more_or : (t : Token) → test t ≡ true → (xs : List V) → ((v : V × List V) × (xs ≡ v.0 ∷ v.1)) ⊎ Fails (many F test).goes_on t ((many F test).parts xs)
    more_or t e (x ∷ xs) = inl ((x, xs), refl)
    more_or t e [] = inr (λ us ps ex b. ex.never t us (or_left (test t) (F.goes_on t) e) b)

    none_or : (t : Token) → test t ≡ false → (xs : List V) → ((u : Unit {0}) × (xs ≡ [])) ⊎ Fails (many F test).goes_on t ((many F test).parts xs)
    none_or t e [] = inl (tt, refl)
    none_or t e (x ∷ xs) = inr (λ us ps ex b. let no : true ≡ false = sym (rep.starts t us x (flat_map F.parts xs ++ ps) (rw append_assoc at b)) ∙ narrow t e in cc)

    step : (bound : ℕ) → ((ts : List PlacedToken) → length ts < bound → length ts < n → Right (many F test) (λ vs. vs) ts (up_to bound test p ts))
        → (ts : List PlacedToken) → length ts < suc bound → length ts < n → (b : Bool) → test (next_of ts) ≡ b
        → Right (many F test) (λ vs. vs) ts (pick b (p >>= λ v. up_to bound test p >>= λ vs. done (v ∷ vs)) (done []) ts)
    step bound again ts small lt true e =
        right_in {F = both F (many F test)} {i = λ x. x.0 ∷ x.1} (record { same = λ v. refl; wider = λ t on. on; other = more_or (next_of ts) e })
        (behind_right (λ v. up_to bound test p >>= λ vs. done (v ∷ vs)) (many_apart F first test rep) (hp ts lt)
        (λ v front rest is spans.
        let shorter : length rest < length ts = moves front rest rep is spans in
        mapped {n = suc (length rest)} {F = many F test} {f = λ vs. vs} {g = λ vs. v ∷ vs} {p = up_to bound test p} (λ vs. done (v ∷ vs))
        (λ us l. again us (omega arith) (omega arith)) (λ vs us. refl) rest (omega arith)))
    step bound again ts small lt false e = right_in {i = λ u. []} (record { same = λ u. refl; wider = λ t h. absurd (cc); other = none_or (next_of ts) e }) (nothing_right ts)

    go : (bound : ℕ) (ts : List PlacedToken) → length ts < bound → length ts < n → Right (many F test) (λ vs. vs) ts (up_to bound test p ts)
    go zero ts small lt = absurd (omega arith)
    go (suc bound) ts small lt = step bound (go bound) ts small lt (test (next_of ts)) refl
