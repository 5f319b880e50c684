use Rattle.dary_heap_uses.proofs.{IsSameBag, OnErr, YieldsList-from_vec, arith, at_most_from_yields_List, extend_fits, fact_from_extend, length, map-id, on_err_weaker, rules, subst, sym, ◌++◌, ◌∙◌}
use Rattle.dary_heap_uses.proofs.from_std.add_all.Goals as goal

pub returns-clause-succeeds : goal.returns-clause-succeeds
returns-clause-succeeds c =
    let more = c.args.more in
    let never : OnErr c.extend.result ⊥ = on_err_weaker c.extend.result (λ k.
    let few = at_most_from_yields_List (YieldsList-from_vec {s = k.from} more.items k.begins.0 (k.begins.1 ∙ more.ok.0)) (omega arith) in
    extend_fits (length more.items) k.came _ _ few (omega (arith, c.requires, more.ok.0)) k.refused) c.extend.ensures.refused in
    grind (arith, never)

pub returns-clause-bag : goal.returns-clause-bag
returns-clause-bag c =
    let more = c.args.more in
    let ok = returns-clause-succeeds c in
    let told = fact_from_extend (λ price. price) c.extend.result c.extend.ensures.ran (λ it from. YieldsList-from_vec {s = it} more.items from.0 (from.1 ∙ more.ok.0))
    (λ xs all extended. subst (λ prices. IsSameBag (c.args.prices.now.items ++ prices) c.extend.new.self.items) (sym (map-id xs) ∙ all) extended.bag) in
    search (rules, ok, told)
