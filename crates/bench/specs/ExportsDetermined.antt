-- What a call for programs in other languages returns, and what it leaves, is determined. `exports_determined` of proofs/ shows it.
use Rattle.std.specs.Prelude.{ℕ, ◌≡◌, List}
use Rattle.rules.specs.State.{Sizes}
use Rattle.rules.specs.Line.{Request}
use Rattle.store.specs.Loading.{Outcome}
use Rattle.calls.specs.Calls.{RequestCall, LineCall, ListingCall, LoadCall}
use Rattle.bench.specs.Exports.{returned}

-- two results that a contract allows, and what they leave, are equal: refusals and exit words too
abbrev pub OneResult : (Outcome → Type 0) → Type 0
OneResult Allowed = (r r' : ℕ) (exit exit' : List ℕ) → Allowed (returned r exit) → Allowed (returned r' exit') → (r ≡ r') × (exit ≡ exit')

pub record ExportsDetermined : Type 0 where
  -- bench_load
  pub load : (module' : List ℕ) (sizes : Sizes) (entry : List ℕ) → OneResult (LoadCall module' sizes entry)
  -- bench_step, bench_spawn, bench_deliver, bench_back, bench_undeliver, bench_rollback
  pub request : (request : Request) (entry : List ℕ) → OneResult (RequestCall request entry)
  -- bench_line
  pub line : (line entry : List ℕ) → OneResult (LineCall line entry)
  -- bench_listing
  pub listing : (store out : List ℕ) → OneResult (ListingCall store out)
