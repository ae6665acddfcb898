-- Threads may borrow a desk, and passes, jobs and completions may move between threads. So may all that they hold. Each step is one search,
-- since one search for a whole desk takes too long.
use denote.RattleType.{RattleType}
use denote.Param.Send.{IsSend, IsSync, sendable}
use Rattle.std.proofs.Crossing.{crosses}
use Rattle.locked_book.proofs.histories.Front.TheSendSync as fronts
use Rattle.locked_book.proofs.histories.History.TheSendSync as histories
use Rattle.circular_buffer.proofs.cells.Cells.TheSendSync as cells
use Rattle.circular_buffer.proofs.cells.Deed.TheSendSync as deed
use Rattle.giotto_tasks.proofs.bodies.Expr.TheLaws.TheKnot as expr_knot
use Rattle.giotto_tasks.proofs.bodies.Stmt.TheLaws.TheKnot as stmt_knot
use Rattle.giotto_tasks.proofs.code.Op.TheLaws.TheKnot as op_knot
use Rattle.rig_model.proofs.logged.Place.TheSendSync as places
use Rattle.giotto_tasks.specs.contracts.names.Name as Name
use Rattle.giotto_tasks.specs.contracts.bodies.Expr as Expr
use Rattle.giotto_tasks.specs.contracts.bodies.Stmt as Stmt
use Rattle.giotto_tasks.specs.contracts.bodies.Body as Body
use Rattle.giotto_tasks.specs.contracts.code.driver.DriverCode as DriverCode
use Rattle.giotto_tasks.specs.contracts.values.Values as Values
use Rattle.rig_model.specs.text.contracts.programs.Sensor as Sensor
use Rattle.rig_model.specs.text.contracts.programs.Actuator as Actuator
use Rattle.rig_model.specs.text.contracts.programs.Output as Output
use Rattle.rig_model.specs.text.contracts.programs.Task as Task
use Rattle.rig_model.specs.text.contracts.programs.Update as Update
use Rattle.rig_model.specs.text.contracts.programs.Destination as Destination
use Rattle.rig_model.specs.text.contracts.programs.Switch as Switch
use Rattle.rig_model.specs.text.contracts.programs.Invocation as Invocation
use Rattle.rig_model.specs.text.contracts.programs.Mode as Mode
use Rattle.rig_model.specs.text.contracts.programs.Parts as Parts
use Rattle.rig_model.specs.text.contracts.programs.Program as Program
use Rattle.host_core.specs.well_formed.contracts.timetables.SlotExpr as SlotExpr
use Rattle.host_core.specs.well_formed.contracts.timetables.SlotUpdate as SlotUpdate
use Rattle.host_core.specs.well_formed.contracts.timetables.SlotDestination as SlotDestination
use Rattle.host_core.specs.well_formed.contracts.timetables.SlotExit as SlotExit
use Rattle.host_core.specs.well_formed.contracts.timetables.SlotInvocation as SlotInvocation
use Rattle.host_core.specs.well_formed.contracts.timetables.TaskSlots as TaskSlots
use Rattle.host_core.specs.well_formed.contracts.Checked as Checked
use Rattle.rig_model.specs.config.contracts.Config as Config
use Rattle.rig_model.specs.grants.contracts.grants.Grants as Grants
use Rattle.rig_model.specs.trace.contracts.records.Happening as Happening
use Rattle.rig_model.specs.trace.contracts.records.Record as Record
use Rattle.rig_model.specs.trace.contracts.traces.Trace as Trace
use Rattle.rig_model.specs.contracts.jobs.JobId as JobId
use Rattle.rig_model.specs.contracts.logged.KeptCall as KeptCall
use Rattle.rig_model.specs.contracts.logged.Logged as Logged
use Rattle.host_core.specs.job_table.contracts.finished.Finished as Finished
use Rattle.host_core.specs.job_table.contracts.jobs.Job as Job
use Rattle.host_core.specs.job_table.contracts.jobs.Done as Done
use Rattle.host_core.specs.job_table.contracts.jobs.Jobs as Jobs
use Rattle.host_core.specs.state.contracts.tenants.Tenant as Tenant
use Rattle.host_core.specs.contracts.hosts.Host as Host
use Rattle.locked_book.specs.declared.naming.Naming.{Ghosts}
use Rattle.locked_book.specs.contracts.books.Book as Book
use Rattle.locked_book.specs.contracts.logs.Log as Log
use Rattle.locked_book.specs.contracts.desks.Desk as Desk
use Rattle.locked_book.specs.contracts.passes.Pass as Pass

pub name_sync : IsSync Name.the_row
name_sync = search (crosses, sendable) depth 60 fits 20000

pub name_send : IsSend Name.the_row
name_send = search (crosses, sendable) depth 60 fits 20000

pub expr_sync : IsSync Expr.the_row
expr_sync = search (crosses, name_sync, expr_knot.crosses, sendable) depth 60 fits 20000

pub expr_send : IsSend Expr.the_row
expr_send = search (crosses, name_send, expr_knot.crosses, sendable) depth 60 fits 20000

pub stmt_sync : IsSync Stmt.the_row
stmt_sync = search (crosses, name_sync, expr_knot.crosses, stmt_knot.crosses, sendable) depth 60 fits 20000

pub stmt_send : IsSend Stmt.the_row
stmt_send = search (crosses, name_send, expr_knot.crosses, stmt_knot.crosses, sendable) depth 60 fits 20000

pub body_sync : IsSync Body.the_row
body_sync = search (crosses, name_sync, stmt_sync, op_knot.crosses, sendable) depth 60 fits 20000

pub body_send : IsSend Body.the_row
body_send = search (crosses, name_send, stmt_send, op_knot.crosses, sendable) depth 60 fits 20000

pub driver_sync : IsSync DriverCode.the_row
driver_sync = search (crosses, sendable) depth 60 fits 20000

pub driver_send : IsSend DriverCode.the_row
driver_send = search (crosses, sendable) depth 60 fits 20000

pub sensor_sync : IsSync Sensor.the_row
sensor_sync = search (crosses, name_sync, sendable) depth 60 fits 20000

pub sensor_send : IsSend Sensor.the_row
sensor_send = search (crosses, name_send, sendable) depth 60 fits 20000

pub actuator_sync : IsSync Actuator.the_row
actuator_sync = search (crosses, name_sync, sendable) depth 60 fits 20000

pub actuator_send : IsSend Actuator.the_row
actuator_send = search (crosses, name_send, sendable) depth 60 fits 20000

pub output_sync : IsSync Output.the_row
output_sync = search (crosses, name_sync, sendable) depth 60 fits 20000

pub output_send : IsSend Output.the_row
output_send = search (crosses, name_send, sendable) depth 60 fits 20000

pub task_sync : IsSync Task.the_row
task_sync = search (crosses, name_sync, body_sync, body_send, sendable) depth 60 fits 20000

pub task_send : IsSend Task.the_row
task_send = search (crosses, name_send, body_sync, body_send, sendable) depth 60 fits 20000

pub update_sync : IsSync Update.the_row
update_sync = search (crosses, name_sync, expr_knot.crosses, sendable) depth 60 fits 20000

pub update_send : IsSend Update.the_row
update_send = search (crosses, name_send, expr_knot.crosses, sendable) depth 60 fits 20000

pub destination_sync : IsSync Destination.the_row
destination_sync = search (crosses, name_sync, expr_knot.crosses, sendable) depth 60 fits 20000

pub destination_send : IsSend Destination.the_row
destination_send = search (crosses, name_send, expr_knot.crosses, sendable) depth 60 fits 20000

pub switch_sync : IsSync Switch.the_row
switch_sync = search (crosses, name_sync, expr_sync, destination_sync, sendable) depth 60 fits 20000

pub switch_send : IsSend Switch.the_row
switch_send = search (crosses, name_send, expr_send, destination_send, sendable) depth 60 fits 20000

pub invocation_sync : IsSync Invocation.the_row
invocation_sync = search (crosses, name_sync, expr_sync, sendable) depth 60 fits 20000

pub invocation_send : IsSend Invocation.the_row
invocation_send = search (crosses, name_send, expr_send, sendable) depth 60 fits 20000

pub mode_sync : IsSync Mode.the_row
mode_sync = search (crosses, name_sync, update_sync, switch_sync, invocation_sync, sendable) depth 60 fits 20000

pub mode_send : IsSend Mode.the_row
mode_send = search (crosses, name_send, update_send, switch_send, invocation_send, sendable) depth 60 fits 20000

pub parts_sync : IsSync Parts.the_row
parts_sync = search (crosses, name_sync, sensor_sync, actuator_sync, output_sync, task_sync, mode_sync, sendable) depth 60 fits 20000

pub parts_send : IsSend Parts.the_row
parts_send = search (crosses, name_send, sensor_send, actuator_send, output_send, task_send, mode_send, sendable) depth 60 fits 20000

pub program_sync : IsSync Program.the_row
program_sync = search (crosses, parts_sync, sendable) depth 60 fits 20000

pub program_send : IsSend Program.the_row
program_send = search (crosses, parts_send, sendable) depth 60 fits 20000

pub slot_expr_sync : IsSync SlotExpr.the_row
slot_expr_sync = search (crosses, driver_sync, sendable) depth 60 fits 20000

pub slot_expr_send : IsSend SlotExpr.the_row
slot_expr_send = search (crosses, driver_send, sendable) depth 60 fits 20000

pub slot_update_sync : IsSync SlotUpdate.the_row
slot_update_sync = search (crosses, slot_expr_sync, sendable) depth 60 fits 20000

pub slot_update_send : IsSend SlotUpdate.the_row
slot_update_send = search (crosses, slot_expr_send, sendable) depth 60 fits 20000

pub slot_destination_sync : IsSync SlotDestination.the_row
slot_destination_sync = search (crosses, slot_expr_sync, sendable) depth 60 fits 20000

pub slot_destination_send : IsSend SlotDestination.the_row
slot_destination_send = search (crosses, slot_expr_send, sendable) depth 60 fits 20000

pub slot_exit_sync : IsSync SlotExit.the_row
slot_exit_sync = search (crosses, slot_expr_sync, slot_destination_sync, sendable) depth 60 fits 20000

pub slot_exit_send : IsSend SlotExit.the_row
slot_exit_send = search (crosses, slot_expr_send, slot_destination_send, sendable) depth 60 fits 20000

pub slot_invocation_sync : IsSync SlotInvocation.the_row
slot_invocation_sync = search (crosses, slot_expr_sync, sendable) depth 60 fits 20000

pub slot_invocation_send : IsSend SlotInvocation.the_row
slot_invocation_send = search (crosses, slot_expr_send, sendable) depth 60 fits 20000

pub task_slots_sync : IsSync TaskSlots.the_row
task_slots_sync = search (crosses, sendable) depth 60 fits 20000

pub task_slots_send : IsSend TaskSlots.the_row
task_slots_send = search (crosses, sendable) depth 60 fits 20000

pub checked_send : IsSend Checked.the_row
checked_send = search (crosses, program_sync, program_send, slot_update_sync, slot_update_send, slot_exit_sync, slot_exit_send, slot_invocation_sync, slot_invocation_send, task_slots_sync, task_slots_send, sendable) depth 60 fits 20000

pub values_send : IsSend Values.the_row
values_send = search (crosses, sendable) depth 60 fits 20000

pub id_send : IsSend JobId.the_row
id_send = search (crosses, name_send, sendable) depth 60 fits 20000

pub job_send : IsSend Job.the_row
job_send = search (crosses, id_send, values_send, body_sync, body_send, sendable) depth 60 fits 20000

pub done_send : IsSend Done.the_row
done_send = search (crosses, job_send, values_send, sendable) depth 60 fits 20000

pub jobs_send : IsSend Jobs.the_row
jobs_send = search (crosses, job_send, sendable) depth 60 fits 20000

pub finished_send : IsSend Finished.the_row
finished_send = search (crosses, id_send, values_send, sendable) depth 60 fits 20000

pub config_send : IsSend Config.the_row
config_send = search (crosses, name_send, sendable) depth 60 fits 20000

pub grants_send : IsSend Grants.the_row
grants_send = search (crosses, name_send, sendable) depth 60 fits 20000

pub happening_send : IsSend Happening.the_row
happening_send = search (crosses, name_send, sendable) depth 60 fits 20000

pub record_send : IsSend Record.the_row
record_send = search (crosses, happening_send, sendable) depth 60 fits 20000

pub trace_send : IsSend Trace.the_row
trace_send = search (crosses, record_send, cells.the_send, deed.the_send, sendable) depth 60 fits 20000

pub tenant_send : IsSend Tenant.the_row
tenant_send = search (crosses, name_send, grants_send, checked_send, values_send, body_sync, body_send, trace_send, sendable) depth 60 fits 20000

pub host_send : IsSend Host.the_row
host_send = search (crosses, config_send, tenant_send, finished_send, sendable) depth 60 fits 20000

pub kept_send : IsSend KeptCall.the_row
kept_send = search (crosses, places.the_field_send, sendable) depth 60 fits 20000

pub logged_send : IsSend Logged.the_row
logged_send = search (crosses, kept_send, sendable) depth 60 fits 20000

module _ (N : RattleType) (g : Ghosts N.Denot) (s : IsSend N) where
  pub pass_send : IsSend (Pass.the_row N g)
  pass_send = search (crosses, kept_send, fronts.the_send, sendable) depth 60 fits 20000

  pub log_send : IsSend (Log.the_row N g)
  log_send = search (crosses, logged_send, histories.the_send, sendable) depth 60 fits 20000

  pub book_send : IsSend (Book.the_row N g)
  book_send = search (crosses, host_send, log_send, sendable) depth 60 fits 20000

  pub desk_sync : IsSync (Desk.the_row N g)
  desk_sync = search (crosses, book_send, sendable) depth 60 fits 20000

  pub desk_send : IsSend (Desk.the_row N g)
  desk_send = search (crosses, book_send, sendable) depth 60 fits 20000
