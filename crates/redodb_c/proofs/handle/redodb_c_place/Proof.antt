-- `redodb_c_place` writes behind the pointer that no database is open.
use Rattle.redodb_c.proofs.Steps.{List, [], ◌∷◌, refl, lit<, proved, full_share, ent, emp, id⊢, Val, vunit, of_list, tables, WpFn, Ura, ‵, raw, prop, ◌$◌, ◌∵◌, !, qed, done, move, drop, use0, use2, join, fjoin, fpack, feq_i, regoal, suffices, group, Logic, sem, live, agg, enter, of_opd, lit, unit_lit, init, stop, no_more, and_then, assigns, returns, alloc_all, pass_all, free_all, look_at, get, through, sets, part_in, yes, Valss, owns, Ptr, RawPtr, block_ptr, lies_at, room_at, in_a_block, rawptr_vals, rawptr_Tells, plain, nothing, on_entry, Stays, walk_of, stay_dropped, Goes-dropped, ends_at}
use denote.Enum.Row.{tagged_with}
use denote.Enum.Enum.{form_of, in_a_row}
use denote.Enum.Declared.{shape}
use Rattle.redodb_c.specs.declared.contents.Contents.TheVariants.{Closed}
use Rattle.redodb_c.specs.contracts.contents.Contents as contents
use Rattle.redodb_c.specs.contracts.handle.redodb_c_place as f
use Rattle.redodb_c.proofs.handle.redodb_c_place.Statement.{statement}
use Rattle.redodb_c.proofs.handle.redodb_c_place.Code as code

abbrev stayed : Stays f.ended.signature.params f.ended.kept
stayed = (stay_dropped _ yes, tt)

-- nothing is owned if no database is open
closed_of : {M : Type 1} {𝓤 : Ura M} (𝓛 : Logic 𝓤)
    → ent 𝓤 (emp 𝓤) (sem 𝓛 (contents.the_row.own_val Closed (live 0 (of_list []) ∷ [])))
closed_of 𝓛 =
    let form = form_of (shape contents.the_type) in
    qed 𝓛 [] ∵ nothing ! $ feq_i ! (List Val) [] [] refl $ fjoin ! $
    fpack ! (Valss []) (in_a_row [] (owns [] tt) []) tt $
    feq_i ! (List Val) (live 0 (of_list []) ∷ []) (live 0 (of_list []) ∷ []) refl $ fjoin ! $
    fpack ! (List Val)
    (tagged_with form form.payload (contents.the_type.to Closed) (live 0 (of_list []) ∷ [])) [] $
    done !

pub redodb_c_place_spec : {M : Type 1} → statement M
redodb_c_place_spec 𝓤 𝓛 𝓜 𝓡 wired =
    let X = contents.the_row in let closed : Val = live 0 (of_list []) in
    let c = f.clauses 𝓛 𝓜.mem 𝓡.returns in let W = walk_of 𝓛 f.ended stayed c in
    let 𝓣 = tables 𝓤 𝓛.H 𝓜 𝓡 𝓡.env in
    proved 𝓛 f.ended stayed c 𝓜 𝓡 (Goes-dropped 𝓛 0 (plain (λ _. RawPtr)) yes (λ κs x w. refl), tt)
    f.Key.name code.function (code.unfolded 𝓤 𝓛.H 𝓜 𝓡 wired)
    (λ κs. (rawptr_vals, tt)) (λ κs. (rawptr_Tells, tt)) (λ κs qs bounds a g are.
    let y : Ptr → W.Ghost = λ p. ((κs, qs, bounds, (p, tt), (rawptr_vals p, tt)), g) in
    qed 𝓛 (raw (on_entry 𝓛 f.signature κs qs a (y a.0).0.4) ∷ ‵ (room_at X a.0) ∷ []) ∵ drop ! $
    in_a_block ! a.0 (λ p. room_at X p) (id⊢ 𝓤 _) (λ b o e.
    regoal ! (λ p. prop (WpFn 𝓤 𝓛.H 𝓣.C 𝓣.Λ code.function (rawptr_vals p) (W.post (y p)))) e refl $
    enter ! _ _ _ _ _ $ alloc_all ! (λ l. pass_all ! refl ((tt, tt), tt) $
    sets ! (of_opd ! (get ! refl)) refl (tt, tt) $
    sets ! (agg ! (and_then ! (lit ! tt) (no_more !))) refl (tt, (record { fits = lit< tt }, tt)) $
    assigns ! (of_opd ! (get ! refl)) (through ! refl (stop !))
    (init ! 0 refl (tt, (record { fits = lit< tt }, tt))) $
    sets ! (of_opd ! (unit_lit !)) refl (tt, tt) $
    returns ! (look_at ! 0 refl) $ free_all ! refl $
    suffices ! _ (ends_at 𝓛 f.ended stayed c (y (block_ptr b o)) vunit tt (tt, tt) (tt, tt)) $
    use0 𝓛 (‵ (X.own_val Closed (closed ∷ []))) (closed_of 𝓛) $ move ! (1 ∷ 0 ∷ []) $
    use2 𝓛 (‵ (lies_at X full_share (block_ptr b o) Closed))
    (part_in 𝓛 X refl full_share Closed b o closed) $
    feq_i ! _ (vunit ∷ []) _ refl $ nothing ! $ nothing ! $
    join ! $ nothing ! $ group ! 3 $ done !)))
