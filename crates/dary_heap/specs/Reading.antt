-- How the commands and replies of the code are read by the bag machine: a heap or a vector in one as the list of its items.
use Rattle.std.specs.Prelude.{ℕ, List, map, Some, None}
use Rattle.dary_heap.specs.Machine as machine
use Rattle.dary_heap.specs.declared.run.Act.{Act}
use Rattle.dary_heap.specs.declared.run.Act.TheVariants.{Write, Refresh}
use Rattle.dary_heap.specs.declared.run.Command.{Command}
use Rattle.dary_heap.specs.declared.run.Command.TheVariants.{Push, Pop, PopIf, Ask, Len, Retain, Extend, Append, Reserve, Shrink, Clear, Drain, DrainSorted, Loan}
use Rattle.dary_heap.specs.declared.run.End.{End}
use Rattle.dary_heap.specs.declared.run.End.TheVariants.{Drop as PutBack, Pop as TakeOut}
use Rattle.dary_heap.specs.declared.run.Reply.{Reply}
use Rattle.dary_heap.specs.declared.run.Reply.TheVariants.{Pushed, PushRefused, Popped, Asked, Len as Size, Done, ExtendRefused, AppendRefused, Refused, Taken, Loaned}
use Rattle.dary_heap.specs.declared.run.Seen.{Seen}
use Rattle.dary_heap.specs.declared.run.Seen.TheVariants.{Old, Changed}

abbrev pub act : {T : Type 0} → Act T → machine.Act T
act (Write x) = machine.Write x
act Refresh = machine.Refresh

abbrev pub acts : {T : Type 0} → List (Act T) → List (machine.Act T)
acts xs = map act xs

abbrev pub ending : End → machine.End
ending PutBack = machine.PutBack
ending TakeOut = machine.TakeOut

abbrev pub sight : {T : Type 0} → Seen T → machine.Seen T
sight (Old x) = machine.Old x
sight (Changed answer) = machine.Changed answer

abbrev pub sights : {T : Type 0} → List (Seen T) → List (machine.Seen T)
sights xs = map sight xs

abbrev pub command : {T P : Type 0} {D : ℕ} → Command T D P → machine.Command T P
command (Push x) = machine.Push x
command Pop = machine.Pop
command (Ask p) = machine.Ask p
command (PopIf p) = machine.PopIf p
command Len = machine.Len
command (Retain p) = machine.Retain p
command (Extend items) = machine.Extend items.items
command (Append other) = machine.Append other.items
command (Reserve n) = machine.Reserve n
command (Shrink n) = machine.Shrink n
command Clear = machine.Clear
command (Drain k) = machine.Drain k
command (DrainSorted k) = machine.DrainSorted k
command (Loan done end) = machine.Loan (acts done.items) (ending end)

abbrev pub reply : {T : Type 0} {D : ℕ} → Reply T D → machine.Reply T
reply Pushed = machine.Pushed
reply (PushRefused x) = machine.PushRefused x
reply (Popped x) = machine.Popped x
reply (Asked answer) = machine.Asked answer
reply (Size n) = machine.Size n
reply Done = machine.Done
reply ExtendRefused = machine.ExtendRefused
reply (AppendRefused other) = machine.AppendRefused other.items
reply Refused = machine.Refused
reply (Taken items) = machine.Taken items.items
reply (Loaned None) = machine.Loaned None
reply (Loaned (Some told)) = machine.Loaned (Some (sights told.0.items, told.1))

abbrev pub commands : {T P : Type 0} {D : ℕ} → List (Command T D P) → List (machine.Command T P)
commands xs = map command xs

abbrev pub replies : {T : Type 0} {D : ℕ} → List (Reply T D) → List (machine.Reply T)
replies xs = map reply xs
