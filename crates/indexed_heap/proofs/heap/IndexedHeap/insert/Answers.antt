use Rattle.dary_heap.proofs.Common.{None, Some, sym}
use Rattle.indexed_heap.proofs.AsMap.{Gets-given, item_of-absent}
use Rattle.indexed_heap.proofs.Changing.{Gets-len, inserts_held, inserts_new}
use Rattle.indexed_heap.proofs.heap.IndexedHeap.insert.Goals as goal

pub returns-in-Ok-clause-given : goal.returns-in-Ok-clause-given
returns-in-Ok-clause-given g c = sym (item_of-absent c.args.key c.args.self.now.entries c.in_default.ensures.none)

pub returns-in-Ok-clause-len : goal.returns-in-Ok-clause-len
returns-in-Ok-clause-len g c = Gets-len c.args.key c.args.item c.args.self.now.entries c.add.new.self.entries None c.in-Ok.ensures.gets

pub returns-in-Ok-clause-counted : goal.returns-in-Ok-clause-counted
returns-in-Ok-clause-counted g c = inserts_new g.row.D c.args.key c.args.self.now.entries c.in_default.ensures.none _ _ c.in-Ok.ensures.counted

pub returns-clause-given : goal.returns-clause-given
returns-clause-given g c = Gets-given c.args.key c.args.item c.args.self.now.entries c.replace.new.self.entries (Some c.replace.result) c.replace.ensures.gets c.in-Some.ensures.sound.distinct

pub returns-clause-len : goal.returns-clause-len
returns-clause-len g c = Gets-len c.args.key c.args.item c.args.self.now.entries c.replace.new.self.entries (Some c.replace.result) c.replace.ensures.gets

pub returns-clause-counted : goal.returns-clause-counted
returns-clause-counted g c = inserts_held g.row.D c.args.key c.args.self.now.entries c.in-Some.ensures.sound.distinct c.in-Some.at c.in-Some.ensures.found _ _ c.replace.ensures.counted
