use Rattle.dary_heap.proofs.Common.{◌≡◌, ◌+◌, IsLastGreatest}
use Rattle.dary_heap.proofs.sift.choice.guessed.Given as goal

abbrev pub invariant-loop-place : goal.invariant-loop-place
invariant-loop-place g l = record {
  greatest : IsLastGreatest g.J.Judge.order l.first l.place l.best l.hole.items;
  counted : g.J.Judge.count l.judge + l.first + 1 ≡ g.J.Judge.count l.initial.judge + l.place;
}
