-- What a worker is given may move to its thread.
use denote.Param.Send.{IsSend, sendable}
use Rattle.std.proofs.Crossing.{crosses}
use Rattle.locked_book.proofs.cited.Crossing.{job_send}
use Rattle.worker_pool.specs.contracts.pools.Inbox as Inbox
use Rattle.worker_pool.specs.contracts.pools.Order as Order

pub order_send : IsSend Order.the_row
order_send = search (crosses, job_send, sendable) depth 60 fits 20000

pub inbox_send : IsSend Inbox.the_row
inbox_send = search (crosses, order_send, sendable) depth 60 fits 20000
