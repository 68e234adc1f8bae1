-- What the rows of a target say of the names that they are on.
use Rattle.std.specs.Prelude.{◌≡◌, ◌≢◌, ◌⊎◌, ℕ, Some}
use Rattle.redodb_model.specs.State.{Mark, Records, mark_of}
use Rattle.redodb_model.specs.OutOfDate.{HasFile, HasCreatedRow}
use Rattle.redodb_records.specs.declared.news.News.{News}
use Rattle.redodb_records.specs.declared.news.News.TheVariants.{Appeared, Changed}

-- the name that the news are of
abbrev pub name_of : News → ℕ
name_of (Appeared n) = n
name_of (Changed n) = n

-- the news are true of t's rows: a created row on a name that has a file now, or a change row with
-- another mark than the name has now
abbrev pub IsNews : Records ℕ → ℕ → News → Type 0
IsNews r t (Appeared n) = HasCreatedRow r t n × HasFile r n
IsNews r t (Changed n) = (mark : Mark) × (r.rows.change t n ≡ Some mark) × (mark ≢ mark_of r n)

-- t has a created row on n, which has a file now, or a change row with another mark than n has now
abbrev pub HasNewsOn : Records ℕ → ℕ → ℕ → Type 0
HasNewsOn r t n =
    (HasCreatedRow r t n × HasFile r n)
    ⊎ ((mark : Mark) × (r.rows.change t n ≡ Some mark) × (mark ≢ mark_of r n))
