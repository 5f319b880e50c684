use Rattle.dary_heap.proofs.shortest_path.Examining.{search_more}
use Rattle.dary_heap.proofs.shortest_path.shortest_path_with.Goals as goal

pub returns-clause-counted : goal.returns-clause-counted
returns-clause-counted g c = rw c.clear.ensures.uncounted at (search_more g.row.D c.search.ensures.within c.search.ensures.counted)
