use Rattle.std.proofs.Common.{◌≡◌, ℕ, Some, length, slice_get}
use Rattle.std.specs.Fn.{FnReturnsAt}
use Rattle.graph_search.specs.Searching.{IsSearch, tables}
use Rattle.graph_search.proofs.Searching.{IsRelaxing}
use Rattle.graph_search.proofs.search.Found.examine.Given as goal

abbrev pub invariant-loop-next : goal.invariant-loop-next
invariant-loop-next g l = (start : g.row.N.Denot) (number : ℕ) (node : g.row.N.Denot) →
    IsSearch (g.G.Expand.edge l.graph) g.N.PartialEq.eq (FnReturnsAt g.F.Fn l.is_goal) start 18446744073709551615
    (tables l.fn.self.names.keys l.fn.self.reached.items l.fn.self.heap.entries) l.taken.items l.place l.cost →
    slice_get l.taken.items l.place ≡ Some number →
    slice_get l.fn.self.names.keys number ≡ Some node →
    IsRelaxing (g.G.Expand.edge l.graph) g.N.PartialEq.eq (FnReturnsAt g.F.Fn l.is_goal) start 18446744073709551615
    (tables l.self.names.keys l.self.reached.items l.self.heap.entries) l.taken.items l.place l.cost node l.edges.items

abbrev pub decreases-loop-next : goal.decreases-loop-next
decreases-loop-next g l = length l.edges.items
