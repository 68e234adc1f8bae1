-- `replace` opens the handle, follows its pointer, reads the value there and writes the other in its place.
use Rattle.redodb_c.proofs.Steps.{◌≡◌, ℕ, List, [], ◌∷◌, ◌++◌, refl, sym, ap, ◌∙◌, proved_at, full_share, SProp, ent, sep, ex, guard, id⊢, ftrue, fat, flft, T, Ty, Val, vptr, has_ty, WT, tables, WpFn, Ura, ‵, ◌⊛◌, some, given, prop, at_ret, ◌$◌, ◌∵◌, !, qed, done, move, keep, use1, use2, split, join, fsplit, fsplit3, fjoin, fjoin3, pick, learn, show, check, rewrite, regoal, suffices, frame, Logic, sem, whole, sub, look_in, enter, of_opd, load, look, store, stop, fld, assigns, first, blocks, exec, returns, alloc_all, pass_all, free_all, look_at, get, through, sets, sets_last, env, part_out, part_in, Typed, Is, shows, cell_at, lone, part_at, owns, Ptr, block_ptr, lies_at, in_a_block, plain, types_at, nothing, opens, closes, peeks, Stays, walk_of, says, stay_dropped, stay_ref, Goes-ref, ends_at}
use denote.Exit.{Last, left, rest, yes}
use denote.Param.Mute.{blank}
use Rattle.std.proofs.VecSteps.Shapes.{after}
use Rattle.std.proofs.alloc.Calls.{Goes-blank}
use Rattle.redodb_c.specs.declared.contents.Contents.TheVariants.{Closed, Open}
use Rattle.redodb_c.specs.contracts.handle.Handle.replace as f
use Rattle.redodb_c.proofs.handle.Handle.replace.Statement.{statement}
use Rattle.redodb_c.proofs.handle.Handle.replace.Code as code
use Rattle.redodb_c.specs.contracts.handle.Handle.{the_row as R}
use Rattle.redodb_c.proofs.handle.Handle.TheLaws.{lowers}
use Rattle.redodb_c.specs.contracts.contents.Contents.{the_row as X}
use Rattle.redodb_c.proofs.contents.Contents.TheLaws.{the_row_laws as laws}

abbrev τ : Ty
τ = lone X.mir

abbrev Good : Val → Type 0
Good v = T (has_ty τ v) × WT v

abbrev stayed : Stays f.ended.signature.params f.ended.kept
stayed = (stay_ref (0 ∷ []) tt (plain (λ _. R)), (stay_dropped (plain (λ _. X)) yes, tt))

-- what is left of a value that is used up is nothing
quiet : (x : X.Denot) (f : Last (X.exit yes) x) → T (blank (left (X.exit yes) x f))
quiet Closed f = tt
quiet (Open live) f = tt

abbrev one : (vs : List Val) → Typed (τ ∷ []) vs → (v : Val) × (vs ≡ v ∷ []) × Good v
one [] t = absurd t
one (v ∷ []) t = (v, refl, t.0)
one (v ∷ w ∷ vs) t = absurd t.1

-- the value there is a cell, and what the value owns
lies_out : {M : Type 1} {𝓤 : Ura M} (𝓛 : Logic 𝓤) (x : X.Denot) (b o : ℕ)
    → ent 𝓤 (sem 𝓛 (part_at X full_share x b o))
    (ex 𝓤 (λ (v : Val). guard 𝓤 (Good v)
    (sep 𝓤 (𝓛.H.at full_share τ b o v) (sem 𝓛 (X.own_val x (v ∷ []))))))
lies_out {𝓤 = 𝓤} 𝓛 x b o =
    qed 𝓛 (‵ (part_at X full_share x b o) ∷ []) ∵
    use1 𝓛 (some (λ (v : Val). ‵ (fat full_share τ b o v) ⊛ ‵ (X.own_val x (v ∷ []))))
    (part_out 𝓛 X refl full_share x b o) $ pick ! (λ v. split ! $ move ! (1 ∷ []) $
    peeks ! X (Is X) (shows 𝓛 X) x (v ∷ []) (λ p.
    show ! (λ (w : Val). guard 𝓤 (Good w)
    (sep 𝓤 (𝓛.H.at full_share τ b o w) (sem 𝓛 (X.own_val x (w ∷ []))))) v $
    check ! ((laws.lawful 𝓛).typed x (v ∷ []) p).0 $ move ! (1 ∷ 0 ∷ []) $ done !))

pub replace_spec : {M : Type 1} → statement M
replace_spec 𝓤 𝓛 𝓜 𝓡 wired =
    let c = f.clauses 𝓛 𝓜.mem 𝓡.returns in let W = walk_of 𝓛 f.ended stayed c in
    let 𝓣 = tables 𝓤 𝓛.H 𝓜 𝓡 𝓡.env in
    proved_at 𝓛 f.ended stayed c 𝓜 𝓡 (
      Goes-ref 𝓛 1 0 tt (plain (λ _. R)),
      (Goes-blank 𝓛 1 (plain (λ _. X)) yes (λ κs. quiet), tt),
    )
    f.Key.name code.function (code.unfolded 𝓤 𝓛.H 𝓜 𝓡 wired) (λ z are.
    let κ = z.0.0.0 in let q = z.0.1.0 in let r = z.0.3.0 in let new = z.0.3.1.0 in
    let b = r.ref_ptr.0 in let o = r.ref_ptr.1 in let h = r.now in let vss = z.0.4 in
    let Post : Val → SProp 𝓤 = W.post z in
    let got = one vss.1.0 ((laws.lawful 𝓛).typed new vss.1.0 are.1.0) in
    let w = got.0 in let good = got.2 in
    qed 𝓛 (((‵ (flft κ q) ⊛ ‵ ftrue) ⊛ ‵ (owns (types_at f.ended.signature.params z.0.0) z.0.3 vss))
    ∷ ‵ ftrue ∷ []) ∵
    split ! $ split ! $ move ! (2 ∷ []) $ fsplit ! $ move ! (1 ∷ []) $ fsplit ! $
    rewrite ! 0 (λ (us : List Val). ‵ (X.own_val new us)) got.1 refl $ keep ! (2 ∷ 3 ∷ 0 ∷ []) $
    regoal ! (λ (us : List Val). prop (WpFn 𝓤 𝓛.H 𝓣.C 𝓣.Λ code.function us Post))
    (λ i. are.0.0 i ++ (got.1 i ++ [])) refl $
    enter ! 𝓣.C 𝓣.Λ code.function (vptr b o ∷ w ∷ []) Post $
    alloc_all ! (λ l. pass_all ! refl ((tt, tt), (good, tt)) $
    fsplit3 ! $ move ! (1 ∷ 2 ∷ 3 ∷ []) $ opens ! tt R b o (λ us.
    move ! (1 ∷ []) $ peeks ! R _ (shows 𝓛 R) h us (λ is. fsplit ! $ move ! (1 ∷ []) $
    in_a_block ! h.at (λ p. lies_at X full_share p h.contents) (id⊢ 𝓤 _) (λ b' o' e.
    use1 𝓛 (some (λ (v : Val). given (Good v)
    (‵ (fat full_share τ b' o' v) ⊛ ‵ (X.own_val h.contents (v ∷ [])))))
    (lies_out 𝓛 h.contents b' o') $ pick ! (λ v. learn ! (λ tv. split ! $
    let word = lowers.val_is h us is
    ∙ ap (λ (p : Ptr). lowers.lowered (record h { at = p }) ∷ []) e in
    let Cell = λ (ws : List Val). ‵ (cell_at full_share R.mir ws b o) in
    rewrite ! 3 Cell word refl $
    -- [the value's cell; what the old value owns; what the fields own; the struct's cell; the open
    -- borrow, in three entries; self's first part; what the new value owns]
    sets ! (of_opd ! (load ! (through ! refl (fld ! refl (stop !)))
    (look_in ! 3 (sub ! 0 refl (whole !))))) refl (tt, tt) $
    sets ! (of_opd ! (get ! refl)) refl (tt, tt) $
    first ! $ blocks ! $
    sets ! (of_opd ! (load ! (through ! refl (stop !)) (look ! 0 refl))) refl tv $
    sets ! (of_opd ! (get ! refl)) refl good $
    assigns ! (of_opd ! (get ! refl)) (through ! refl (stop !)) (store ! 0 refl good) $
    sets_last ! (of_opd ! (get ! refl)) refl tv $
    exec ! 𝓣.C 𝓣.Λ (env code.Mir.locals l) (after 3 (code.function).body) (at_ret _ Post) $
    sets ! (of_opd ! (get ! refl)) refl tv $
    move ! (0 ∷ 8 ∷ []) $
    use2 𝓛 (‵ (lies_at X full_share (block_ptr b' o') new))
    (part_in 𝓛 X refl full_share new b' o' w) $
    rewrite ! 0 (λ (p : Ptr). ‵ (lies_at X full_share p new)) (sym e) refl $
    rewrite ! 3 Cell (sym word) refl $
    move ! (2 ∷ 0 ∷ []) $ fjoin ! $ move ! (2 ∷ 0 ∷ 3 ∷ 4 ∷ 5 ∷ []) $
    closes ! tt R (record h { contents = new }) us b o $
    -- [two parts of self; the token; what the old value owns; self's first part]
    returns ! (look_at ! 0 refl) $ free_all ! refl $
    suffices ! _ (ends_at 𝓛 f.ended stayed c z v h.contents
    (record h { contents = new }, (rest (X.exit yes) new, tt)) (tt, (tt, tt))) $
    says ! (refl, refl) $
    nothing ! $ move ! (3 ∷ 0 ∷ []) $ join ! $ frame ! $ move ! (3 ∷ 0 ∷ 1 ∷ []) $ fjoin3 ! $
    nothing ! $ nothing ! $ fjoin ! $ move ! (1 ∷ 0 ∷ []) $ fjoin ! $ done !)))))))
