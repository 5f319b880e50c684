-- `new` makes the empty struct, and picks the empty list and 0 for its ghost fields.
use Rattle.dary_heap.proofs.hole.Walks.{[], ◌∷◌, refl, proved, Val, vstruct, vnil, ftrue, ‵, raw, ◌$◌, ◌∵◌, !, qed, keep, join, suffices, done, agg, no_more, returns, enter, alloc_all, pass_all}
use Rattle.dary_heap.proofs.hole.Walks.{free_all, look_at, sets, pure_i, nothing, on_entry, ends_at, says_two}
use Rattle.dary_heap.proofs.Common.{Work}
use Rattle.dary_heap.specs.contracts.shortest_path.work.Work.{the_row as R}
use Rattle.dary_heap.specs.contracts.shortest_path.work.Work.new as f
use Rattle.dary_heap.proofs.shortest_path.work.Work.new.Statement.{statement}
use Rattle.dary_heap.proofs.shortest_path.work.Work.new.Code as code

abbrev v : Val
v = vstruct vnil

abbrev r : Work
r = record { examined = []; pushes = 0 }

pub new_spec : {M : Type 1} → statement M
new_spec 𝓤 𝓛 𝓜 𝓡 wired =
    let c = f.clauses 𝓛 𝓜.mem 𝓡.returns in
    proved 𝓛 f.ended tt c 𝓜 𝓡 tt
    f.Key.name code.function (code.unfolded 𝓤 𝓛.H 𝓜 𝓡 wired)
    (λ κs. tt) (λ κs. tt) (λ κs qs bounds a n are.
    qed 𝓛 (raw (on_entry 𝓛 f.signature κs qs a tt) ∷ ‵ ftrue ∷ []) ∵ keep ! [] $
    enter ! _ _ _ _ _ $ alloc_all ! (λ l. pass_all ! refl tt $
    sets ! (agg ! (no_more !)) refl (tt, tt) $
    returns ! (look_at ! 0 refl) $ free_all ! refl $
    pure_i ! (R.own_val r (v ∷ [])) ((λ vss. (tt, tt)), tt) ((tt, (refl, tt)), tt) $
    suffices ! _ (ends_at 𝓛 f.ended tt c ((κs, qs, bounds, a, tt), n) v r tt tt) $ says_two ! (refl, refl) $
    nothing ! $ join ! $ nothing ! $ done !))
