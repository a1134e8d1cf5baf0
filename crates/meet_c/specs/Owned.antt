-- What a loose box owns.
use Rattle.std.specs.Prelude.{Option, Some, None}
use base.Fml.{Fml, ftrue}
use denote.RawPtr.{Ptr}
use Rattle.std.specs.Box.Ownership.{box_owns}
use Rattle.std.specs.contracts.impls.GlobalAllocator.TheImpl.{ghosts}
use Rattle.std.specs.declared.alloc.Global.{Global}
use Rattle.meet_c.specs.declared.held.Held.{Held}
use Rattle.meet_c.specs.contracts.held.Held.{the_row}

-- nothing, or the box of this value at this place
abbrev pub held_owns : Global → Ptr → Option Held → Fml
held_owns alloc at None = ftrue
held_owns alloc at (Some value) = box_owns (ghosts.dealloc_token alloc) the_row at value
