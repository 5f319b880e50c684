use Rattle.std.proofs.Common.{◌≡◌, ◌<◌, arith, length, refl, slice_get, Some}
use Rattle.named_heap.proofs.Naming.{greatest_named, keyed_of, length_of, named_there, read_at, sound_of}
use Rattle.named_heap.proofs.heap.NamedHeap.peek.Goals as goal

pub returns-in_err-key-clause-sound : goal.returns-in_err-key-clause-sound
returns-in_err-key-clause-sound g c = rw (← c.self.view_is) (sound_of c.self.inside.names.keys c.self.inside.heap.entries c.self.invariant g.met.K.Eq.laws)

pub bounds-as_slice-key : goal.bounds-as_slice-key
bounds-as_slice-key g c = rw c.as_slice.ensures.keys (keyed_of c.self.inside.names.keys c.self.inside.heap.entries c.self.invariant 0 (c.in_ok-key.key, c.in_ok-key.item.now) c.in_ok-key.ensures.first)

pub offset_bounds-as_slice-key : goal.offset_bounds-as_slice-key
offset_bounds-as_slice-key g c = let inside : c.in_ok-key.key < length c.as_slice.result.now = bounds-as_slice-key g c in omega (arith, inside)

pub returns-clause-variant : goal.returns-clause-variant
returns-clause-variant g c =
    let long = length_of c.self.inside.names.keys c.self.inside.heap.entries c.self.invariant in
    let some : 0 < length c.self.inside.heap.entries = c.in_ok-key.ensures.variant.0 refl in
    rw (← c.self.view_is) (λ _. omega (arith, long, some), λ _. refl)

pub returns-clause-first : goal.returns-clause-first
returns-clause-first g c =
    let names = c.self.inside.names.keys in let entries = c.self.inside.heap.entries in let key = c.in_ok-key.key in
    let name = c.index-as_slice-key.result in
    let keyed = keyed_of names entries c.self.invariant in
    let inside : key < length c.as_slice.result.now = rw c.as_slice.ensures.keys (keyed 0 (key, c.in_ok-key.item.now) c.in_ok-key.ensures.first) in
    let at : slice_get names key ≡ Some name = read_at c.as_slice.result.now names key name c.as_slice.ensures.keys inside c.index-as_slice-key.is in
    rw (← c.self.view_is) (named_there names entries keyed 0 (key, c.in_ok-key.item.now) name c.in_ok-key.ensures.first at)

pub returns-clause-greatest : goal.returns-clause-greatest
returns-clause-greatest g c =
    let sound = sound_of c.self.inside.names.keys c.self.inside.heap.entries c.self.invariant g.met.K.Eq.laws in
    greatest_named {eq = g.K.PartialEq.eq} g.met.J.Judge.total g.row.D c.args.self.now.entries (c.index-as_slice-key.result, c.in_ok-key.item.now) (rw (← c.self.view_is) sound)
    (returns-clause-first g c)

pub returns-clause-sound : goal.returns-clause-sound
returns-clause-sound g c = rw (← c.self.view_is) (sound_of c.self.inside.names.keys c.self.inside.heap.entries c.self.invariant g.met.K.Eq.laws)
