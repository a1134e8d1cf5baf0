-- A loose box may go to another thread: nothing of what it owns is of one thread.
use mir.Raw.{raw}
use base.Shift.{Keyless}
use denote.Memory.{lone}
use denote.RawPtr.{Ptr}
use denote.Struct.Struct.{exits_of}
use denote.Struct.Owning.{shape, fields, to}
use denote.Param.Send.{IsSend, AllSend, owning_send, struct_send, sendable}
use Rattle.std.proofs.Crossing as heap
use Rattle.std.specs.Prelude.{Option, Some, None}
use Rattle.std.specs.declared.alloc.Global.{Global}
use Rattle.std_alloc.proofs.SendSync.{quiet, lies}
use Rattle.std_heap.proofs.Global.TheSendSync as handle
use Rattle.meet_c.specs.Owned.{held_owns}
use Rattle.meet_c.specs.declared.held.Held.{Held}
use Rattle.meet_c.specs.contracts.held.Held as Held
use Rattle.meet_c.proofs.held.Held.TheSendSync.{the_send as held}
use Rattle.meet_c.specs.contracts.loose.Loose.{the_row, the_type}

held_keyless : (alloc : Global) (at : Ptr) (v : Option Held) → Keyless (held_owns alloc at v)
held_keyless alloc at None = tt
held_keyless alloc at (Some x) = (lies Held.the_row held at x, heap.frees.frees alloc (raw (lone Held.the_row.mir)) at)

pub send : IsSend the_row
send =
    let all : AllSend (fields the_type) = (search sendable, (handle.the_field_send, tt)) in
    owning_send the_type all (λ d. held_keyless d.alloc d.at d.value)
    (λ k. quiet (to the_type) (exits_of k (fields the_type)) ((struct_send (shape the_type) all).leaving k))
