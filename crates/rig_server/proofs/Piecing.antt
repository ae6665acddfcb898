-- The pieces of a history, one after the other.
use Rattle.std.proofs.Common.{◌≡◌, ◌<◌, ◌^◌, ℕ, List, [], ◌∷◌, ◌++◌, Option, Some, None, append_assoc, drop, slice_get, refl, sym, ap, ◌∙◌, subst, arith}
use Rattle.std.specs.Io.KnownBytes.{Appends}
use Rattle.std.proofs.KnownBytes.{Appends-nil, Appends-trans}
use Rattle.locked_book.specs.Books.{ArchiveValue}
use Rattle.rig_history.proofs.cited.LogTexts.{not_before_log, text_both, tick_both}
use Rattle.rig_history.specs.Entries.{text_of_log}
use Rattle.rig_history.specs.Pieces.{PieceValue, tick_after_log}
use Rattle.rig_model.specs.Logs.{calls_of_seat}
use Rattle.rig_model.specs.config.Roster.{Rig}
use Rattle.rig_model.specs.declared.logged.Call.{Call}
use Rattle.rig_model.specs.declared.logged.Logged.{Logged}
use Rattle.rig_server.proofs.Archiving.{calls_both}
use Rattle.rig_server.specs.inner.Archived.{archived_of}
use Rattle.rig_server.specs.inner.Pieces.{WritesOn, calls_left, entries_from, entries_of, left_of, text_left}

-- the entries from the first on are all
all_entries : (archives : List ArchiveValue) → entries_from 0 archives ≡ entries_of archives
all_entries [] = refl
all_entries (archive ∷ archives) = refl

-- a list is its first element, and then the rest
cut_first : {X : Type 0} (xs : List X) (x : X) → slice_get xs 0 ≡ Some x → xs ≡ x ∷ drop 1 xs
cut_first [] x is = absurd (cc)
cut_first (y ∷ ys) x is = let same : y ≡ x = cc in ap (λ z. z ∷ ys) same

-- the oldest archive becomes the piece, after the one before it is written
pub next_writes : (rig : Rig) (tick next : ℕ) (archives : List ArchiveValue) (archive : ArchiveValue) (before : Option PieceValue) (piece : PieceValue)
    → before ≡ None
    → slice_get archives 0 ≡ Some archive
    → (tick_after_log tick archive.log < 2 ^ 64 → piece.left ≡ text_of_log rig tick archive.log)
    → (tick_after_log tick archive.log < 2 ^ 64 → next ≡ tick_after_log tick archive.log)
    → WritesOn rig before tick archives (Some piece) next (drop 1 archives) (λ bytes. bytes ≡ [])
next_writes rig tick next archives archive before piece none first text number =
    subst (λ b. WritesOn rig b tick archives (Some piece) next (drop 1 archives) (λ bytes. bytes ≡ [])) (sym none)
    (subst (λ all. WritesOn rig None tick all (Some piece) next (drop 1 archives) (λ bytes. bytes ≡ [])) (sym (cut_first archives archive first)) made)
  where
    rest : List Logged
    rest = entries_of (drop 1 archives)

    made : WritesOn rig None tick (archive ∷ drop 1 archives) (Some piece) next (drop 1 archives) (λ bytes. bytes ≡ [])
    made few =
        let later : tick_after_log (tick_after_log tick archive.log) rest < 2 ^ 64 = subst (λ n. n < 2 ^ 64) (tick_both tick archive.log rest) few in
        let up = not_before_log (tick_after_log tick archive.log) rest in
        let low : tick_after_log tick archive.log < 2 ^ 64 = omega (arith, later, up) in
        let same = number low in (
          ap (λ n. tick_after_log n rest) same ∙ sym (tick_both tick archive.log rest),
          ([], text_both rig tick archive.log rest ∙ (ap (λ t. t ++ text_of_log rig (tick_after_log tick archive.log) rest) (sym (text low)) ∙ ap (λ n. piece.left ++ text_of_log rig n rest) (sym same)), refl),
        )

-- more entries of the oldest archive are noted
pub noted_on : (rows_before rows : List (List Call)) (noted_before noted : ℕ) (archives later : List ArchiveValue) (archive : ArchiveValue) (seat : ℕ)
    → slice_get archives 0 ≡ Some archive
    → archived_of rows seat ++ calls_of_seat seat (drop noted archive.log) ≡ archived_of rows_before seat ++ calls_of_seat seat (drop noted_before archive.log)
    → calls_left rows noted (archives ++ later) seat ≡ calls_left rows_before noted_before (archives ++ later) seat
noted_on rows_before rows noted_before noted archives later archive seat first added =
    subst (λ all. calls_left rows noted (all ++ later) seat ≡ calls_left rows_before noted_before (all ++ later) seat) (sym (cut_first archives archive first))
    (split rows noted ∙ (ap (λ cs. cs ++ calls_of_seat seat rest) added ∙ sym (split rows_before noted_before)))
  where
    rest : List Logged
    rest = entries_of (drop 1 archives ++ later)

    split : (r : List (List Call)) (n : ℕ) → archived_of r seat ++ calls_of_seat seat (drop n archive.log ++ rest) ≡ (archived_of r seat ++ calls_of_seat seat (drop n archive.log)) ++ calls_of_seat seat rest
    split r n = ap (λ cs. archived_of r seat ++ cs) (calls_both seat (drop n archive.log) rest) ∙ sym (append_assoc (archived_of r seat) (calls_of_seat seat (drop n archive.log)) (calls_of_seat seat rest))

-- all entries of the oldest archive are noted, and it becomes the piece
pub next_noted : (rows_before rows : List (List Call)) (noted_before noted : ℕ) (archives later : List ArchiveValue) (archive : ArchiveValue) (seat : ℕ)
    → slice_get archives 0 ≡ Some archive
    → archived_of rows seat ++ calls_of_seat seat (drop noted archive.log) ≡ archived_of rows_before seat ++ calls_of_seat seat (drop noted_before archive.log)
    → drop noted archive.log ≡ []
    → calls_left rows 0 (drop 1 archives ++ later) seat ≡ calls_left rows_before noted_before (archives ++ later) seat
next_noted rows_before rows noted_before noted archives later archive seat first added whole =
    ap (λ entries. archived_of rows seat ++ calls_of_seat seat entries) (all_entries (drop 1 archives ++ later) ∙ sym (ap (λ log. log ++ entries_of (drop 1 archives ++ later)) whole))
    ∙ (ap (λ all. calls_left rows noted (all ++ later) seat) (sym (cut_first archives archive first)) ∙ noted_on rows_before rows noted_before noted archives later archive seat first added)

-- nothing is written
pub writes_none : (rig : Rig) (piece : Option PieceValue) (tick : ℕ) (archives : List ArchiveValue) (w : Option (List ℕ)) → WritesOn rig piece tick archives piece tick archives (Appends w w)
writes_none rig piece tick archives w few = (refl, ([], refl, Appends-nil w))

-- one is written after the other
writes_both : (rig : Rig) (p q r : Option PieceValue) (i j k : ℕ) (xs ys zs : List ArchiveValue) (u v w : Option (List ℕ))
    → WritesOn rig p i xs q j ys (Appends u v) → WritesOn rig q j ys r k zs (Appends v w) → WritesOn rig p i xs r k zs (Appends u w)
writes_both rig p q r i j k xs ys zs u v w one other few =
    let first = one few in
    let second = other (subst (λ n. n < 2 ^ 64) (sym first.0) few) in
    let later = text_left rig r k zs in (
      second.0 ∙ first.0,
      (
        first.1.0 ++ second.1.0,
        first.1.1 ∙ (ap (λ text. first.1.0 ++ text) second.1.1 ∙ sym (append_assoc first.1.0 second.1.0 later)),
        Appends-trans u v w first.1.0 second.1.0 first.1.2 second.1.2,
      ),
    )

-- then a piece is written, as far as the file takes it
pub writes_piece : (rig : Rig) (p q r : Option PieceValue) (i j : ℕ) (xs ys : List ArchiveValue) (u v w : Option (List ℕ))
    → WritesOn rig p i xs q j ys (Appends u v)
    → ((bytes : List ℕ) × (left_of q ≡ bytes ++ left_of r) × Appends v w bytes)
    → WritesOn rig p i xs r j ys (Appends u w)
writes_piece rig p q r i j xs ys u v w one written = writes_both rig p q r i j j xs ys ys u v w one more
  where
    more : WritesOn rig q j ys r j ys (Appends v w)
    more few =
        let later = text_of_log rig j (entries_of ys) in
        (refl, (written.0, ap (λ text. text ++ later) written.1 ∙ append_assoc written.0 (left_of r) later, written.2))

-- then the next piece is made
pub writes_next : (rig : Rig) (p q m r : Option PieceValue) (i j k : ℕ) (xs ys zs : List ArchiveValue) (u v w : Option (List ℕ))
    → WritesOn rig p i xs q j ys (Appends u v)
    → ((bytes : List ℕ) × (left_of q ≡ bytes ++ left_of m) × Appends v w bytes)
    → WritesOn rig m j ys r k zs (λ bytes. bytes ≡ [])
    → WritesOn rig p i xs r k zs (Appends u w)
writes_next rig p q m r i j k xs ys zs u v w one written other = writes_both rig p m r i j k xs ys zs u w w (writes_piece rig p q m i j xs ys u v w one written) quiet
  where
    quiet : WritesOn rig m j ys r k zs (Appends w w)
    quiet few = let none = other few in (none.0, (none.1.0, none.1.1, subst (Appends w w) (sym none.1.2) (Appends-nil w)))
