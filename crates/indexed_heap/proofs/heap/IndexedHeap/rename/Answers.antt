use Rattle.dary_heap.proofs.Common.{◌≡◌, ◌<◌, ℕ, ap, arith, length, Some, IsHeapOrdered, rules, set, slice_get, slice_get_within, sym, ◌∙◌}
use Rattle.indexed_heap.specs.Entries.{Indexed, by_item}
use Rattle.indexed_heap.proofs.Renaming.{rekeyed_none, rekeyed_one, rekeyed_ordered, rekeyed_right}
use Rattle.indexed_heap.proofs.Sound.{sound}
use Rattle.indexed_heap.proofs.heap.IndexedHeap.rename.Goals as goal

pub returns-in_default-clause-renamed : goal.returns-in_default-clause-renamed
returns-in_default-clause-renamed g c = sym (rekeyed_none c.args.key c.args.to c.args.self.now.entries c.in_default.ensures.none)

pub replace_key_at-requires : goal.replace_key_at-requires
replace_key_at-requires g c =
    let xs = c.self.inside.entries.items in let at = c.in-Some.at in
    let found = rw (← c.self.view_is) at c.in-Some.ensures.found in
    let inside = slice_get_within xs at found.entry found.there in
    let before : IsHeapOrdered (by_item g.J.Judge.order) g.row.D xs = rw (← c.self.view_is) at c.in-Some.ensures.sound.ordered in
    let ordered : (entry : ℕ × g.row.T.Denot) → slice_get xs at ≡ Some entry →
    IsHeapOrdered (by_item g.J.Judge.order) g.row.D (set xs at (c.args.to, entry.1)) = λ entry there. rekeyed_ordered xs at c.args.to entry there g.J.Judge.order g.row.D before in
    search (rules, inside, ordered)

pub invariant_of-self : goal.invariant_of-self
invariant_of-self g c =
    let xs = c.self.inside.entries.items in
    let found = rw (← c.self.view_is) at c.in-Some.ensures.found in
    let room : c.args.to < length c.self.inside.places.items = omega (arith, c.requires.room, ap (λ (h : Indexed g.row.T.Denot). h.keys) c.self.view_is, c.self.inside.places.ok.0) in
    rw (c.replace_key_at.ensures.replaced found.entry found.there).1 (rekeyed_right xs c.in-Some.at c.args.to found.entry found.there c.self.inside.places.items room (rw
    (← c.self.view_is) at c.requires.free) c.self.invariant)

pub returns-clause-renamed : goal.returns-clause-renamed
returns-clause-renamed g c =
    let xs = c.self.inside.entries.items in
    let found = rw (← c.self.view_is) at c.in-Some.ensures.found in
    let once = rw (← c.self.view_is) at c.in-Some.ensures.sound.distinct in
    rw (← c.self.view_is) ((c.replace_key_at.ensures.replaced found.entry found.there).1 ∙ sym (rekeyed_one c.args.key c.args.to xs c.in-Some.at found.entry once found.there found.has))

pub returns-clause-sound : goal.returns-clause-sound
returns-clause-sound g c = sound g.row.D c.replace_key_at.new.self.items _ c.replace_key_at.ensures.ordered (invariant_of-self g c)
