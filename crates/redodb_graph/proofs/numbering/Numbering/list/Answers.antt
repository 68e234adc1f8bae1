use Rattle.std.proofs.Common.{◌≡◌, length, refl, sym, subst, arith}
use Rattle.std.specs.List.{Contains}
use Rattle.redodb_graph.specs.Steps.{TablesOf}
use Rattle.redodb_graph.proofs.Growing.{listed_from}
use Rattle.redodb_graph.proofs.numbering.Numbering.list.Goals as goal

pub push_places-requires : goal.push_places-requires
push_places-requires c = λ p there.
    subst (λ (t : TablesOf). Contains t.pairs.items p) (sym c.self.view_is) (c.requires p there)

pub returns-clause-listed : goal.returns-clause-listed
returns-clause-listed c =
    let old : TablesOf = record {
      pairs = c.self.inside.pairs;
      listed = c.self.inside.listed.items;
      stamps = c.self.inside.stamps.keys;
      digests = c.self.inside.digests.keys;
    } in
    let new : TablesOf = record {
      pairs = c.self.inside.pairs;
      listed = c.push_places.new.listed.items;
      stamps = c.self.inside.stamps.keys;
      digests = c.self.inside.digests.keys;
    } in
    let from : c.in_ok-from.from ≡ length old.listed =
    omega (arith, c.in_ok-from.ensures, c.len.ensures) in
    let len : c.in_ok-len.len ≡ length c.args.names.now = omega (arith, c.in_ok-len.ensures) in
    listed_from old new c.args.target c.args.names.now
    (record { from = c.in_ok-from.from; len = c.in_ok-len.len; itself = c.contains-itself.result })
    refl from len c.contains-itself.ensures.value c.in_ok-push_places.ensures
