-- The iterations in which jobs are sent.
use Rattle.std.proofs.Common.{arith, refl, sym, ap, subst, ◌∙◌, ◌≡◌, ◌+◌, ◌<◌, ◌∷◌, ◌++◌, ℕ, [], Bool, true, false, List, Option, length, drop, get_or}
use Rattle.std.proofs.lemmas.List.{append-nil, append_assoc, drop_more, drop_all, length-append, length-drop}
use Rattle.tenant_jobs.specs.Jobs.{JobValue}
use Rattle.worker_pool.proofs.Adding.{adds_more, adds_nothing}
use Rattle.host_core.specs.Adding.{Adds}
use Rattle.worker_pool.specs.Unsent.{AreSent, sent_of, unsent_of}

-- after some iterations: the jobs that are left, then those that weren't sent; the others were added to those taken before
abbrev pub IsUnderway : ℕ → Option (List JobValue) → Option (List JobValue) → List JobValue → List JobValue → Type 0
IsUnderway turns before after now jobs =
    (told : List Bool) × (length told ≡ turns) × Adds before after (sent_of told jobs) × (now ≡ drop turns jobs ++ unsent_of told jobs)

pub begun : (before : Option (List JobValue)) (jobs : List JobValue) → IsUnderway 0 before before jobs jobs
begun before jobs = ([], refl, adds_nothing before, sym (append-nil jobs))

pub ended : (turns : ℕ) (before after : Option (List JobValue)) (now jobs : List JobValue) → IsUnderway turns before after now jobs → turns ≡ length jobs → AreSent before after now jobs
ended turns before after now jobs (told, count, adds, is) all =
    (told, count ∙ all, adds, is ∙ ap (λ xs. xs ++ unsent_of told jobs) (drop_all turns jobs (omega (arith, all))))

-- one more iteration says only of the next job whether it was sent
sent_more : (told : List Bool) (jobs rest : List JobValue) (job : JobValue) (sent : Bool) → drop (length told) jobs ≡ job ∷ rest
    → sent_of (told ++ sent ∷ []) jobs ≡ sent_of told jobs ++ sent_of (sent ∷ []) (job ∷ [])
sent_more [] [] rest job sent e = absurd (cc)
sent_more [] (j ∷ jobs) rest job true e = let same : j ≡ job = cc in ap (λ x. x ∷ []) same
sent_more [] (j ∷ jobs) rest job false e = refl
sent_more (b ∷ told) [] rest job sent e = absurd (cc)
sent_more (true ∷ told) (j ∷ jobs) rest job sent e = ap (λ xs. j ∷ xs) (sent_more told jobs rest job sent e)
sent_more (false ∷ told) (j ∷ jobs) rest job sent e = sent_more told jobs rest job sent e

unsent_more : (told : List Bool) (jobs rest : List JobValue) (job : JobValue) (sent : Bool) → drop (length told) jobs ≡ job ∷ rest
    → unsent_of (told ++ sent ∷ []) jobs ≡ unsent_of told jobs ++ unsent_of (sent ∷ []) (job ∷ [])
unsent_more [] [] rest job sent e = absurd (cc)
unsent_more [] (j ∷ jobs) rest job true e = refl
unsent_more [] (j ∷ jobs) rest job false e = let same : j ≡ job = cc in ap (λ x. x ∷ []) same
unsent_more (b ∷ told) [] rest job sent e = absurd (cc)
unsent_more (true ∷ told) (j ∷ jobs) rest job sent e = unsent_more told jobs rest job sent e
unsent_more (false ∷ told) (j ∷ jobs) rest job sent e = ap (λ xs. j ∷ xs) (unsent_more told jobs rest job sent e)

-- before the last iteration there is a job
pub there : (turns : ℕ) (before after : Option (List JobValue)) (now jobs : List JobValue) → IsUnderway turns before after now jobs → turns < length jobs → 0 < length now
there turns before after now jobs (told, count, adds, is) less =
    let e = ap length is in
    omega (arith, length-append (drop turns jobs) (unsent_of told jobs), length-drop turns jobs)

-- an iteration: the first job is taken, and either sent or put after the others
turn : (turns : ℕ) (before between after : Option (List JobValue)) (now jobs : List JobValue) (job : JobValue) (sent : Bool)
    → IsUnderway turns before between (job ∷ now) jobs → turns < length jobs → Adds between after (sent_of (sent ∷ []) (job ∷ []))
    → IsUnderway (turns + 1) before after (now ++ unsent_of (sent ∷ []) (job ∷ [])) jobs
turn turns before between after now jobs job sent (told, count, adds, is) less put =
    let first = drop_more jobs turns job less in
    let all : job ∷ now ≡ get_or jobs turns job ∷ (drop (turns + 1) jobs ++ unsent_of told jobs) = is ∙ ap (λ xs. xs ++ unsent_of told jobs) first in
    let same : job ≡ get_or jobs turns job = cc in
    let rest : now ≡ drop (turns + 1) jobs ++ unsent_of told jobs = cc in
    let at : drop (length told) jobs ≡ job ∷ drop (turns + 1) jobs = rw (count, first) (ap (λ x. x ∷ drop (turns + 1) jobs) (sym same)) in
    let more = unsent_more told jobs (drop (turns + 1) jobs) job sent at in
    let u = unsent_of (sent ∷ []) (job ∷ []) in (
      told ++ sent ∷ [],
      omega (arith, length-append told (sent ∷ []), count),
      subst (λ xs. Adds before after xs) (sym (sent_more told jobs (drop (turns + 1) jobs) job sent at))
          (adds_more before between after (sent_of told jobs) (sent_of (sent ∷ []) (job ∷ [])) adds put),
      ap (λ xs. xs ++ u) rest ∙ append_assoc (drop (turns + 1) jobs) (unsent_of told jobs) u ∙ ap (λ xs. drop (turns + 1) jobs ++ xs) (sym more),
    )

module _ (turns : ℕ) (before between after : Option (List JobValue)) (first now jobs : List JobValue) (job : JobValue)
    (taken : first ≡ job ∷ now) (at : IsUnderway turns before between first jobs) (less : turns < length jobs) where
  pub turn_sent : Adds between after (job ∷ []) → IsUnderway (turns + 1) before after now jobs
  turn_sent put =
      subst (λ xs. IsUnderway (turns + 1) before after xs jobs) (append-nil now)
      (turn turns before between after now jobs job true (subst (λ xs. IsUnderway turns before between xs jobs) taken at) less put)

  pub turn_refused : (back : JobValue) (left : List JobValue) → back ≡ job → left ≡ now ++ back ∷ [] → Adds between after [] → IsUnderway (turns + 1) before after left jobs
  turn_refused back left same is put =
      subst (λ xs. IsUnderway (turns + 1) before after xs jobs) (ap (λ b. now ++ b ∷ []) (sym same) ∙ sym is)
      (turn turns before between after now jobs job false (subst (λ xs. IsUnderway turns before between xs jobs) taken at) less put)
