-- What a slice holds. Assumes nothing.
use Rattle.std.proofs.Common.{ℕ, ◌<◌, List, get_or, w8, Fits}
use Rattle.std.proofs.ByRecursion.{All-from_get_or}
use Rattle.layout.specs.Exact.{Bytewise}

-- what a slice of bytes holds are bytes
pub bytewise : (bs : List ℕ) → ((i : ℕ) → Fits w8 (get_or bs i 0)) → Bytewise bs
bytewise bs fits = All-from_get_or (λ b. b < 256) bs 0 (λ i below. (fits i).fits)
