use Rattle.dary_heap.proofs.Common.{◌≤◌, ap, arith}
use Rattle.indexed_heap.specs.Keys.{key_bound}
use Rattle.indexed_heap.specs.Places.{AreRight}
use Rattle.indexed_heap.proofs.Keys.{bound_within, cut_right}
use Rattle.indexed_heap.proofs.Placing.{has_place}
use Rattle.indexed_heap.proofs.Sound.{sound}
use Rattle.indexed_heap.proofs.heap.IndexedHeap.shrink_to.Goals.{After-shrink_to}
use Rattle.indexed_heap.proofs.heap.IndexedHeap.shrink_to.Given.{Over}
use Rattle.indexed_heap.proofs.heap.IndexedHeap.shrink_to.Goals as goal

pub bound_of-requires : goal.bound_of-requires
bound_of-requires g c = λ i entry there.
    let places = c.self.inside.places in
    let inside = has_place c.self.invariant i entry (rw c.as_slice.ensures.items at there) in
    omega (arith, inside, places.ok.0, places.ok.1, places.small)

-- how many keys are asked for at least
above : (g : Over) (c : After-shrink_to g) → key_bound c.self.inside.entries.items ≤ c.max-keys.result
above g c = omega (arith, c.max-keys.ensures, c.bound_of.ensures, ap key_bound c.as_slice.ensures.items)

-- the table is right for the entries that are left, and has a place for each key
right : (g : Over) (c : After-shrink_to g) → AreRight c.shrink_to.new.self.items c.shrink_to_fit.new.self.items
right g c = rw (c.shrink_to.ensures.items, c.shrink_to_fit.ensures.items, c.truncate.ensures.items) (cut_right c.self.invariant c.max-keys.result (above g c))

pub invariant_of-self : goal.invariant_of-self
invariant_of-self g c = right g (goal.at.invariant_of-self g c).After-shrink_to

pub returns-clause-covers : goal.returns-clause-covers
returns-clause-covers g c =
    let s = (goal.at.returns-clause-covers g c).After-shrink_to in
    omega (arith, bound_within (right g s), c.shrink_to_fit.new.self.ok.0)

pub returns-clause-sound : goal.returns-clause-sound
returns-clause-sound g c = let s = (goal.at.returns-clause-sound g c).After-shrink_to in sound g.row.D _ _ c.shrink_to.ensures.ordered (right g s)

pub returns-clause-room : goal.returns-clause-room
returns-clause-room g c = rw (← c.self.view_is) c.shrink_to.ensures
