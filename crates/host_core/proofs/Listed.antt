-- A question changes nothing. Nor does a command that is answered with a list.
use Rattle.std.specs.Prelude.{unwrap_or}
use Rattle.std.proofs.Common.{◌≡◌, ◌≢◌, ◌<◌, ℕ, Bool, true, false, not, ◌&&◌, ◌||◌, cond, List, [], ◌∷◌, map, length, set, Option, Some, None, Result, Ok, Err, refl, sym, ap, ◌∙◌, ◌⊎◌, ⊎_elim, inl, inr, arith, zero, suc}
use Rattle.std.proofs.Math.ListN.{get_or}
use Rattle.rig_model.specs.text.Program.{GiottoProgram}
use Rattle.rig_model.specs.declared.config.Budgets.{Budgets}
use Rattle.rig_model.specs.Admission.{broken_budget, program_of}
use Rattle.rig_model.specs.Commands.{CommandOutcome, commanded, grant_rows, load_read, load_within, refused, replace_read, replace_within, show_all, show_port, show_value, start_program, with_grants}
use Rattle.rig_model.specs.GrantCommands.{grants_commanded, with_binds, with_offers}
use Rattle.rig_model.specs.Jobs.{has_job, job_of}
use Rattle.rig_model.specs.Ports.{value_of_port}
use Rattle.rig_model.specs.Row.{ActiveTask, Row, is_running}
use Rattle.rig_model.specs.Tenancies.{Tenancy}
use Rattle.rig_model.specs.declared.jobs.JobId.{JobId}
use Rattle.rig_model.specs.grants.Grants.{bound, offered, unbound, unoffered}
use Rattle.rig_model.specs.declared.grants.faults.GrantFault.{GrantFault}
use Rattle.rig_model.specs.declared.grants.rows.Bind as binds
use Rattle.rig_model.specs.declared.grants.rows.Offer as offers
use Rattle.host_core.specs.ListReplies.{is_list}
use Rattle.host_core.specs.Questions.{asks_for_rows, is_question}
use Rattle.rig_model.specs.declared.lines.commands.Command.{Command}
use Rattle.rig_model.specs.declared.lines.commands.Command.TheVariants.{Load, Replace, Start, Stop, ShowMode, ShowPort, ShowAll, Grants}
use Rattle.rig_model.specs.declared.lines.commands.Command.TheVariants as command
use Rattle.rig_model.specs.declared.lines.grant_lines.GrantCommand.{GrantCommand}
use Rattle.rig_model.specs.declared.lines.grant_lines.GrantCommand.TheVariants as about
use Rattle.rig_model.specs.declared.lines.ports.PortName.{PortName}
use Rattle.rig_model.specs.declared.lines.replies.Budget.{Budget}
use Rattle.rig_model.specs.declared.lines.replies.Refusal.{Refusal}
use Rattle.rig_model.specs.declared.lines.replies.Refusal.TheVariants.{BadCommand, Memory, NoPort, NoTenant, NotLoaded, NotRunning, NotThere, OverBudget, Own, Rule, Running, Syntax, TooDeep, TooMany, Twice}
use Rattle.rig_model.specs.declared.lines.replies.Reply.{Reply}
use Rattle.rig_model.specs.declared.lines.replies.Reply.TheVariants.{All, Bound, Loaded, Mode, Offered, Port, Refused, Replaced, Rows, Started, Stopped, Unbound, Unoffered}
use Rattle.rig_model.specs.declared.lines.replies.Reply.TheVariants as replies
use Rattle.rig_model.specs.FirstHalf.{stopped_with}
use Rattle.rig_model.specs.Row.{asked}
use Rattle.rig_model.proofs.cited.JobNames.{same_job_self}
use Rattle.instant_engine.specs.cited.Instants.{IsBetween}
use Rattle.instant_engine.specs.state.Standing.{Standing, StandsFor, at_rest, with_last}
use Rattle.instant_engine.specs.state.cited.Standing.{AreEnded, HoldsOfRow, IsOutcome, has_active, without_ended}

-- the reply is a list only if the row is unchanged
abbrev LeavesRow : Row → CommandOutcome → Type 0
LeavesRow row o = is_list o.reply ≡ true → o.row ≡ row

load_by : (row : Row) (running : Bool) (p : GiottoProgram) (over : Option Budget) → LeavesRow row (cond running (refused row Running) (load_within p row over))
load_by row true p over e = refl
load_by row false p (Some b) e = refl
load_by row false p None e = absurd (cc)

load_listed : (budgets : Budgets) (n : ℕ) (row : Row) (r : Result GiottoProgram Refusal) → LeavesRow row (load_read budgets n row r)
load_listed budgets n row (Err r) e = refl
load_listed budgets n row (Ok p) e = load_by row (is_running row) p (broken_budget budgets n p) e

replace_by : (row : Row) (running : Bool) (p : GiottoProgram) (over : Option Budget) → LeavesRow row (cond running (replace_within p row over) (refused row NotRunning))
replace_by row false p over e = refl
replace_by row true p (Some b) e = refl
replace_by row true p None e = absurd (cc)

replace_listed : (budgets : Budgets) (n : ℕ) (row : Row) (r : Result GiottoProgram Refusal) → LeavesRow row (replace_read budgets n row r)
replace_listed budgets n row (Err r) e = refl
replace_listed budgets n row (Ok p) e = replace_by row (is_running row) p (broken_budget budgets n p) e

start_by : (row : Row) (running : Bool) (p : Option GiottoProgram) → LeavesRow row (cond running (refused row Running) (start_program row p))
start_by row true p e = refl
start_by row false None e = refl
start_by row false (Some p) e = absurd (cc)

stop_by : (row : Row) (running : Bool) → LeavesRow row (cond running (record { row = stopped_with asked row; reply = Stopped }) (refused row NotRunning))
stop_by row true e = absurd (cc)
stop_by row false e = refl

port_by : (x : PortName) (row : Row) (p : Option GiottoProgram) → (show_port x row p).row ≡ row
port_by x row None = refl
port_by x row (Some p) = by (value_of_port p row.ports x.task x.name)
  where
    by : (z : Option _) → (show_value x row z).row ≡ row
    by None = refl
    by (Some z) = refl

all_by : (row : Row) (p : Option GiottoProgram) → (show_all row p).row ≡ row
all_by row None = refl
all_by row (Some p) = refl

offers_by : (owner : _) (row : Row) (reply : Reply) → is_list reply ≡ false → (r : Result (List offers.Offer) GrantFault) → LeavesRow row (with_grants row (with_offers (grant_rows owner row) reply r))
offers_by owner row reply none (Ok os) e = absurd (cc)
offers_by owner row reply none (Err f) e = refl

binds_by : (owner : _) (row : Row) (reply : Reply) → is_list reply ≡ false → (r : Result (List binds.Bind) GrantFault) → LeavesRow row (with_grants row (with_binds (grant_rows owner row) reply r))
binds_by owner row reply none (Ok bs) e = absurd (cc)
binds_by owner row reply none (Err f) e = refl

grants_listed : (tenancy : Tenancy) (c : GrantCommand) (row : Row) → LeavesRow row (with_grants row (grants_commanded c (grant_rows tenancy.owner row)))
grants_listed tenancy (about.Offer a t bounds) row e = offers_by tenancy.owner row Offered refl (offered tenancy.owner row.offers a t (unwrap_or bounds tenancy.owner.bounds)) e
grants_listed tenancy (about.Unoffer a t) row e = offers_by tenancy.owner row Unoffered refl (unoffered tenancy.owner row.offers a t) e
grants_listed tenancy (about.Bind s t a) row e = binds_by tenancy.owner row Bound refl (bound tenancy.owner row.binds s t a) e
grants_listed tenancy (about.Unbind s) row e = binds_by tenancy.owner row Unbound refl (unbound row.binds s) e
grants_listed tenancy about.Rows row e = refl

listed_row : (tenancy : Tenancy) (c : Command) (row : Row) → LeavesRow row (commanded tenancy c row)
listed_row tenancy (Load text) row e = load_listed tenancy.budgets (length text) row (program_of text) e
listed_row tenancy (Replace text) row e = replace_listed tenancy.budgets (length text) row (program_of text) e
listed_row tenancy Start row e = start_by row (is_running row) row.program e
listed_row tenancy Stop row e = stop_by row (is_running row) e
listed_row tenancy ShowMode row e = refl
listed_row tenancy (ShowPort x) row e = port_by x row row.program
listed_row tenancy ShowAll row e = all_by row row.program
listed_row tenancy command.Trace row e = refl
listed_row tenancy (Grants c) row e = grants_listed tenancy c row e

rows_by : (tenancy : Tenancy) (c : GrantCommand) (row : Row) → asks_for_rows c ≡ true → (with_grants row (grants_commanded c (grant_rows tenancy.owner row))).row ≡ row
rows_by tenancy (about.Offer a t bounds) row e = absurd (cc)
rows_by tenancy (about.Unoffer a t) row e = absurd (cc)
rows_by tenancy (about.Bind s t a) row e = absurd (cc)
rows_by tenancy (about.Unbind s) row e = absurd (cc)
rows_by tenancy about.Rows row e = refl

-- a question leaves the row unchanged
asked_row : (tenancy : Tenancy) (c : Command) (row : Row) → is_question c ≡ true → (commanded tenancy c row).row ≡ row
asked_row tenancy (Load text) row e = absurd (cc)
asked_row tenancy (Replace text) row e = absurd (cc)
asked_row tenancy Start row e = absurd (cc)
asked_row tenancy Stop row e = absurd (cc)
asked_row tenancy ShowMode row e = refl
asked_row tenancy (ShowPort x) row e = port_by x row row.program
asked_row tenancy ShowAll row e = all_by row row.program
asked_row tenancy command.Trace row e = refl
asked_row tenancy (Grants c) row e = rows_by tenancy c row e

-- if no task of a list has a job of any name, the list is empty
none_ended : (place : ℕ) (tasks : List ActiveTask) → ((j : JobId) → has_job place tasks j ≡ false) → tasks ≡ []
none_ended place [] f = refl
none_ended place (a ∷ tasks) f =
    absurd (let here : has_job place (a ∷ tasks) (job_of place a) ≡ true = ap (λ b. b || has_job place tasks (job_of place a)) (same_job_self (job_of place a)) in let not_ = f (job_of place a) in cc)

-- a reply is `err memory`, or it isn't
for_memory : (r : Reply) → (r ≡ Refused Memory) ⊎ (r ≢ Refused Memory)
for_memory Loaded = inr (λ e. absurd (cc))
for_memory Replaced = inr (λ e. absurd (cc))
for_memory Started = inr (λ e. absurd (cc))
for_memory Stopped = inr (λ e. absurd (cc))
for_memory (Mode status) = inr (λ e. absurd (cc))
for_memory (Port port) = inr (λ e. absurd (cc))
for_memory (All ports) = inr (λ e. absurd (cc))
for_memory (replies.Trace records) = inr (λ e. absurd (cc))
for_memory Offered = inr (λ e. absurd (cc))
for_memory Unoffered = inr (λ e. absurd (cc))
for_memory Bound = inr (λ e. absurd (cc))
for_memory Unbound = inr (λ e. absurd (cc))
for_memory (Rows rows) = inr (λ e. absurd (cc))
for_memory (Refused why) = by why
  where
    by : (why : Refusal) → (Refused why ≡ Refused Memory) ⊎ (Refused why ≢ Refused Memory)
    by BadCommand = inr (λ e. absurd (cc))
    by (Syntax n) = inr (λ e. absurd (cc))
    by TooDeep = inr (λ e. absurd (cc))
    by TooMany = inr (λ e. absurd (cc))
    by (Rule n) = inr (λ e. absurd (cc))
    by Running = inr (λ e. absurd (cc))
    by NotRunning = inr (λ e. absurd (cc))
    by NotLoaded = inr (λ e. absurd (cc))
    by NoPort = inr (λ e. absurd (cc))
    by NoTenant = inr (λ e. absurd (cc))
    by Own = inr (λ e. absurd (cc))
    by Twice = inr (λ e. absurd (cc))
    by NotThere = inr (λ e. absurd (cc))
    by (OverBudget b) = inr (λ e. absurd (cc))
    by Memory = inl refl

both_not : (b : Bool) → (b && not b) ≡ false
both_not true = refl
both_not false = refl

-- a command that leaves the row unchanged, or that ran out of memory and changed nothing
abbrev pub Leaves : Standing → Standing → Command → Reply → Type 0
Leaves old new c reply = (reply ≢ Refused Memory → reply ≡ (commanded old.tenancy c old.row).reply → (commanded old.tenancy c old.row).row ≡ old.row) × (reply ≡ Refused Memory → new ≡ old)

module _ (old new : Standing) (c : Command) (reply : Reply) (unchanged : reply ≡ Refused Memory → new ≡ old) where
  pub listed_leaves : is_list reply ≡ true → Leaves old new c reply
  listed_leaves listed = (λ other same. listed_row old.tenancy c old.row (ap is_list (sym same) ∙ listed), unchanged)

  pub asked_leaves : is_question c ≡ true → Leaves old new c reply
  asked_leaves question = (λ other same. asked_row old.tenancy c old.row question, unchanged)

module _ (old new : Standing) (c : Command) (reply : Reply) (leaves : Leaves old new c reply) (between : IsBetween old) (tenancy : new.tenancy ≡ old.tenancy)
    (step : HoldsOfRow old (λ row. reply ≢ Refused Memory → IsOutcome (commanded old.tenancy c row) reply new)) (ended : AreEnded old new) where
  own_row : StandsFor old old.row
  own_row = ap (λ (rs : List _). record old.row { records = rs }) (sym between.known.few_records)

  same_row : new.row ≡ old.row
  same_row = ⊎_elim refused_row other_row (for_memory reply)
    where
      refused_row : reply ≡ Refused Memory → new.row ≡ old.row
      refused_row e = ap (λ (s : Standing). s.row) (leaves.1 e)

      other_row : reply ≢ Refused Memory → new.row ≡ old.row
      other_row other =
          let outcome : IsOutcome (commanded old.tenancy c old.row) reply new = step old.row own_row other in
          outcome.stands
          ∙ (ap (with_last new.tenancy.budgets.trace) (leaves.0 other outcome.same_reply)
          ∙ (ap (λ (t : Tenancy). with_last t.budgets.trace old.row) tenancy
          ∙ sym own_row))

  pub nothing_ended : new.ready.ended ≡ []
  nothing_ended = none_ended new.tenancy.owner.place new.ready.ended
      (λ j. ended j ∙ (ap (λ b. has_active old j && not b) (ap (λ (t : Tenancy). has_job t.owner.place new.row.active j) tenancy ∙ ap (λ (r : Row). has_job old.tenancy.owner.place r.active j) same_row) ∙ both_not (has_active old j)))

  pub same_at_rest : at_rest (without_ended new) ≡ at_rest old
  same_at_rest = λ k. record { tenancy = tenancy k; row = same_row k; ready = record { ended = sym between.rest k; room = 0; shared = false } }

-- if one tenant is replaced by one that is the same at rest, all tenants are the same at rest
pub same_set : (xs : List Standing) (i : ℕ) (s d : Standing) → i < length xs → at_rest s ≡ at_rest (get_or xs i d) → map at_rest (set xs i s) ≡ map at_rest xs
same_set [] i s d lt e = absurd (omega (arith, lt))
same_set (x ∷ xs) zero s d lt e = ap (λ y. y ∷ map at_rest xs) e
same_set (x ∷ xs) (suc i) s d lt e = ap (λ ys. at_rest x ∷ ys) (same_set xs i s d (omega (arith, lt)) e)
