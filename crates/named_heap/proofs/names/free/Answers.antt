use Rattle.std.proofs.Common.{◌≡◌, ℕ, List, ap, map, sym, subst, ◌∙◌}
use Rattle.dary_heap.proofs.sift.Removing.{Removes, swap_removes}
use Rattle.indexed_heap.specs.Entries.{AreSound}
use Rattle.indexed_heap.specs.Renaming.{rekeyed}
use Rattle.named_heap.proofs.Freeing.{freed, freed_entries}
use Rattle.named_heap.proofs.names.free.Goals as goal

pub returns-clause-are_named : goal.returns-clause-are_named
returns-clause-are_named g c =
    let names = c.args.names.now.keys in let left = c.swap_remove_index.new.self.keys in let key = c.args.key in let mid = c.args.heap.now.entries in
    let but = c.requires.but in
    let r : Removes names left key = subst (λ (l : List g.row.K.Denot). Removes names l key) (sym c.in-Some.ensures.keys) (swap_removes names key c.in-Some.name but.inside) in
    let is : c.rename.new.self.entries ≡ map (rekeyed c.len.result key) mid = c.rename.ensures.renamed in
    let all = is ∙ ap (λ (n : ℕ). map (rekeyed n key) mid) c.len.ensures.len in
    rw all (freed names left key r but.inside mid but c.swap_remove_index.ensures.unique (subst (λ (l : List (ℕ × g.row.T.Denot)). AreSound g.J.Judge.order g.row.D l) all c.rename.ensures.sound))

pub returns-clause-entries : goal.returns-clause-entries
returns-clause-entries g c =
    let names = c.args.names.now.keys in let left = c.swap_remove_index.new.self.keys in let key = c.args.key in let mid = c.args.heap.now.entries in
    let but = c.requires.but in
    let r : Removes names left key = subst (λ (l : List g.row.K.Denot). Removes names l key) (sym c.in-Some.ensures.keys) (swap_removes names key c.in-Some.name but.inside) in
    let is : c.rename.new.self.entries ≡ map (rekeyed c.len.result key) mid = c.rename.ensures.renamed in
    let all = is ∙ ap (λ (n : ℕ). map (rekeyed n key) mid) c.len.ensures.len in
    rw all (freed_entries names left key r but.inside mid but)
