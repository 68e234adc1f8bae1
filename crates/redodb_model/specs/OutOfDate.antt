-- Which targets are out of date, which names are stale, and which are sources.
use Rattle.std.specs.Prelude.{◌≡◌, ◌≢◌, ◌⊎◌, List, [], ◌∷◌, Some, IsSome, IsTrue, IsNone, ⊤}
use Rattle.redodb_model.specs.State.{Records, Mark, TargetState, Idle, Building, Built, Failed, has_file, target_state, mark_of}

abbrev pub IsTarget : {N : Type 0} → Records N → N → Type 0
IsTarget r n = target_state r n ≢ Idle

abbrev pub HasFile : {N : Type 0} → Records N → N → Type 0
HasFile r n = IsTrue (has_file r n)

-- t has a change row on n
abbrev pub HasChangeRow : {N : Type 0} → Records N → N → N → Type 0
HasChangeRow r t n = IsSome (r.rows.change t n)

-- t has a created row on n
abbrev pub HasCreatedRow : {N : Type 0} → Records N → N → N → Type 0
HasCreatedRow r t n = IsTrue (r.rows.created t n)

-- the stamp of t's file differs from that of its last done
abbrev pub IsEdited : {N : Type 0} → Records N → N → Type 0
IsEdited r t = (r.cell t).file ≢ (r.cell t).done

-- t has a created row on a name that has a file now
abbrev pub SomeAppeared : {N : Type 0} → Records N → N → Type 0
SomeAppeared {N} r t = (n : N) × HasCreatedRow r t n × HasFile r n

-- t has a change row with another mark than the name has now
abbrev pub SomeChanged : {N : Type 0} → Records N → N → Type 0
SomeChanged {N} r t =
    (n : N) × (mark : Mark) × (r.rows.change t n ≡ Some mark) × (mark ≢ mark_of r n)

abbrev pub ReasonIn : {N : Type 0} → TargetState → Records N → N → Type 0
ReasonIn Idle r t = ⊥
ReasonIn (Building s) r t = ⊤
ReasonIn Failed r t = ⊤
ReasonIn Built r t =
    IsEdited r t ⊎ (IsTrue (r.rows.always t) ⊎ (SomeAppeared r t ⊎ SomeChanged r t))

-- t is a target with a reason of its own to be built again
abbrev pub HasReason : {N : Type 0} → Records N → N → Type 0
HasReason r t = ReasonIn (target_state r t) r t

-- t and each of the names after it makes the step to the next, and the last is an end
abbrev pub Chain : {N : Type 0} → (N → N → Type 0) → (N → Type 0) → N → List N → Type 0
Chain step end t [] = end t
Chain step end t (n ∷ ns) = step t n × Chain step end n ns

-- t is a target that depends on n: it has a change row on n
abbrev pub Depends : {N : Type 0} → Records N → N → N → Type 0
Depends r t n = IsTarget r t × HasChangeRow r t n

-- a finite chain of targets, each depending on the next, leads from t to one with a reason of its own
abbrev pub OutOfDate : {N : Type 0} → Records N → N → Type 0
OutOfDate {N} r t = (ns : List N) × Chain (Depends r) (HasReason r) t ns

-- an out-of-date target, or an idle name without a file
abbrev pub IsStale : {N : Type 0} → Records N → N → Type 0
IsStale r n = OutOfDate r n ⊎ ((target_state r n ≡ Idle) × IsNone (r.cell n).file)

abbrev pub HasRow : {N : Type 0} → Records N → N → N → Type 0
HasRow r t n = HasChangeRow r t n ⊎ HasCreatedRow r t n

-- an idle name with a file that some row is on
abbrev pub IsSource : {N : Type 0} → Records N → N → Type 0
IsSource {N} r n = (target_state r n ≡ Idle) × HasFile r n × ((t : N) × HasRow r t n)
