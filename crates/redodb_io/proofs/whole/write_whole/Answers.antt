use Rattle.std.proofs.Common.{◌≡◌, ◌+◌, ◌-◌, List, ℕ, [], ◌++◌, length, take, drop, take-add, take-append-drop, append-nil, length-drop, sym, ap, ◌∙◌, subst, arith, rules}
use Rattle.std.proofs.KnownBytes.{Appends-trans}
use Rattle.std.proofs.lemmas.Grind.{common_steps}
use Rattle.std.proofs.lemmas.List.{take_all}
use Rattle.std.specs.Io.KnownBytes.{Appends}
use Rattle.redodb_io.specs.Watched.{inner_of}
use Rattle.redodb_io.proofs.whole.write_whole.Goals as goal

-- a write that takes no more bytes leaves a prefix
pub returns-in_default-clause-prefix : goal.returns-in_default-clause-prefix
returns-in_default-clause-prefix g c =
    let at = c.loop-at.at in
    let bytes = c.args.bytes.now in
    let sent = Appends-trans
    (g.W.Write.contents (inner_of c.args.writer.now))
    (g.W.Write.contents (inner_of c.loop-at.writer))
    (g.W.Write.contents (inner_of c.write.new.self))
    (take at bytes)
    []
    c.loop-at.invariant.so_far
    c.in_default.ensures.sent in (
      take at bytes ++ [],
      drop at bytes,
      sym (ap (λ (prefix : List ℕ). prefix ++ drop at bytes)
          (append-nil (take at bytes)) ∙ take-append-drop at bytes),
      sent,
    )

pub loop-at-preserved : goal.loop-at-preserved
loop-at-preserved g c =
    let at = c.loop-at.at in
    let bytes = c.args.bytes.now in
    let n = c.in-Some.n in
    let left = length bytes - at in
    let rest : take left (drop at bytes) ≡ drop at bytes =
    take_all left (drop at bytes) (omega (arith, length-drop at bytes)) in
    let sent = Appends-trans
    (g.W.Write.contents (inner_of c.args.writer.now))
    (g.W.Write.contents (inner_of c.loop-at.writer))
    (g.W.Write.contents (inner_of c.write.new.self))
    (take at bytes)
    (take n (take left (drop at bytes)))
    c.loop-at.invariant.so_far
    c.in-Some.ensures.sent in
    let joined : take at bytes ++ take n (take left (drop at bytes)) ≡ take (at + n) bytes =
    ap (λ (more : List ℕ). take at bytes ++ take n more) rest ∙ sym (take-add at n bytes) in
    record {
      so_far = subst (λ (prefix : List ℕ). Appends (g.W.Write.contents (inner_of c.args.writer.now))
          (g.W.Write.contents (inner_of c.write.new.self)) prefix) joined sent;
      within = search rules;
      count = grind (arith, common_steps);
    }
