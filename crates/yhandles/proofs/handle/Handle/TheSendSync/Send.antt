-- A handle may go to another thread, as its session may.
use mir.Raw.{raw}
use base.Shift.{Keyless}
use denote.Memory.{lone}
use denote.RawPtr.{Ptr}
use denote.Struct.Struct.{exits_of}
use denote.Struct.Owning.{shape, fields, to}
use denote.Param.Send.{IsSend, AllSend, owning_send, struct_send, sendable}
use Rattle.std.proofs.Crossing.{frees}
use Rattle.std.specs.declared.option.Option.{Option}
use Rattle.std.specs.declared.option.Option.TheVariants.{None, Some}
use Rattle.std_alloc.proofs.SendSync.{quiet, lies}
use Rattle.yhandles.specs.Handles.{heap, held}
use Rattle.ysession.specs.contracts.session.Session as live
use Rattle.ysession.proofs.session.Session.TheSendSync.{the_send as live_send}
use Rattle.yhandles.specs.contracts.handle.Handle.{the_row, the_type}

quietly : (p : Ptr) (x : Option live.the_row.Denot) → Keyless (held p x)
quietly p None = tt
quietly p (Some x) = (
  lies live.the_row live_send p x,
  frees.frees heap (raw (lone live.the_row.mir)) p,
)

pub send : IsSend the_row
send =
    let all : AllSend (fields the_type) = (search sendable, tt) in
    owning_send the_type all (λ d. quietly d.at d.session)
    (λ k. quiet (to the_type) (exits_of k (fields the_type)) ((struct_send (shape the_type)
    all).leaving k))
