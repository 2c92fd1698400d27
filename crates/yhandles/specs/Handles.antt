-- What a handle owns.
use Rattle.std.specs.Box.Ownership.{box_owns}
use Rattle.std.specs.Coded.{coded_option}
use Rattle.std.specs.declared.option.Option.{Option}
use Rattle.std.specs.declared.option.Option.TheVariants.{None, Some}
use Rattle.std_heap.specs.contracts.GlobalAllocator.TheImpl.{ghosts}
use Rattle.std_heap.specs.declared.Global.{Global}
use base.Fml.{Fml, feq}
use mir.Syntax.{Ty}
use base.Stored.{Coded}
use denote.RawPtr.{Ptr, null_ptr}
use Rattle.ysession.specs.contracts.session.Session.{the_row}

-- the heap of the C library
abbrev pub heap : Global
heap = record { memory = record { seal = tt } }

-- the right to free a block of it
abbrev pub chunk : Ty → Ptr → Fml
chunk = ghosts.dealloc_token heap

-- a session at the pointer and the right to free its block, or a null pointer
abbrev pub held : Ptr → Option the_row.Denot → Fml
held p None = feq Ptr p null_ptr
held p (Some session) = box_owns chunk the_row p session

-- how the logic stores which session that is
abbrev pub session_coded : Coded (Option the_row.Denot)
session_coded = coded_option the_row.coded
