use Rattle.std.proofs.Common.{◌≡◌, arith, length, sym, ◌∙◌}
use Rattle.std.proofs.lemmas.Bool.{eqb-true}
use Rattle.named_heap.specs.Names.{named}
use Rattle.named_heap.proofs.Copying.{item_has, names_same, none_left}
use Rattle.named_heap.proofs.heap.convert.«NamedHeap+K+T+D+ByOrd+S».clone.Goals.{In_ok-names}
use Rattle.named_heap.proofs.heap.convert.«NamedHeap+K+T+D+ByOrd+S».clone.Given.{Over}
use Rattle.named_heap.proofs.heap.convert.«NamedHeap+K+T+D+ByOrd+S».clone.Goals as goal

pub clone-requires-3 : goal.clone-requires-3
clone-requires-3 g c = (
  omega arith,
  λ key x y in' made.
      let names = c.self.inside.names.keys in let entries = c.self.inside.heap.entries in
      let has = item_has names entries c.self.invariant key x in' in
      (rw (← c.self.view_is) at c.requires.items) has.0 x y has.1 made,
)

-- the clones have the same values
same : (g : Over) (c : In_ok-names g) → c.in_ok-names.names.keys ≡ c.self.inside.names.keys
same g c = names_same c.self.inside.names.keys c.self.inside.heap.entries c.self.invariant g.K.Clone.is_clone (rw (← c.self.view_is) at c.requires.names) c.in_ok-names.names.keys
    c.in_ok-names.ensures.cases

pub invariant_of-result : goal.invariant_of-result
invariant_of-result g c =
    let s = (goal.at.invariant_of-result g c).In_ok-names in
    rw (same g s) (rw c.in_ok-heap.ensures.entries c.self.invariant)

pub returns-clause-entries : goal.returns-clause-entries
returns-clause-entries g c =
    let s = (goal.at.returns-clause-entries g c).In_ok-names in
    let names = same g s in
    let all : named c.in_ok-names.names.keys c.in_ok-heap.heap.entries ≡ named c.self.inside.names.keys c.self.inside.heap.entries = λ i. named (names i) (c.in_ok-heap.ensures.entries i) in
    rw (← c.self.view_is) all

pub returns-then-is_empty-clause-entries : goal.returns-then-is_empty-clause-entries
returns-then-is_empty-clause-entries g c =
    let none : length c.args.self.now.entries ≡ 0 = eqb-true _ 0 (sym c.is_empty.ensures.empty ∙ c.if-is_empty.true) in
    c.with_judge_and_hasher.ensures.entries ∙ sym (none_left c.args.self.now.entries none)
