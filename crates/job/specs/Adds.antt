-- The adds that make a roster of a table. This definition serves the proofs only.
use Rattle.std.specs.Prelude.{◌≡◌, ℕ, ◌≤◌, List, drop, sum_by, take}
use Rattle.roster.specs.Book.{book}
use Rattle.roster.specs.Series.{list_of, ready_of, windows_of}
use Rattle.roster.specs.declared.call.Call.{Call}

-- the first n calls make a new roster one of the table t, and are lent no memory; the others are as they were
pub record AreAdds (t : List ℕ) (old calls : List Call) (n : ℕ) : Type 0 where
  pub few : n ≤ 64
  pub booked : book (take n calls) ≡ t
  pub no_windows : sum_by windows_of (take n calls) ≡ 0
  pub no_ready : sum_by ready_of (take n calls) ≡ 0
  pub no_list : sum_by list_of (take n calls) ≡ 0
  pub rest : drop n calls ≡ drop n old
