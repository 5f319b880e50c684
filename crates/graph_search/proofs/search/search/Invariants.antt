use Rattle.std.proofs.Common.{◌≡◌, ℕ, ◌-◌, ◌^◌, [], length}
use Rattle.std.specs.Fn.{FnReturnsAt}
use Rattle.graph_search.specs.Searching.{IsSearch, tables}
use Rattle.graph_search.proofs.search.search.Given as goal

abbrev pub invariant-loop-number : goal.invariant-loop-number
invariant-loop-number g l = record {
  search : (level : ℕ) × IsSearch (g.G.Expand.edge l.graph) g.N.PartialEq.eq (FnReturnsAt g.F.Fn l.is_goal) l.fn.start 18446744073709551615
      (tables l.found.names.keys l.found.reached.items l.found.heap.entries) l.taken.items (length l.taken.items) level;
  empty : l.edges.items ≡ [];
}

abbrev pub decreases-loop-number : goal.decreases-loop-number
decreases-loop-number g l = 2 ^ 63 - length l.taken.items
