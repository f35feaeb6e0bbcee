-- What is written over the buffers of a list, and what is read from them, a buffer's part at a time, for any store, room and list.
-- Assumes nothing.
use Rattle.std.specs.Prelude.{ℕ, ◌+◌, ◌-◌, ◌*◌, min, List, [], ◌∷◌, leb, length, take, drop, if◌then◌else◌}
use Rattle.std.proofs.Math.Seq.{paste}
use Rattle.plain.specs.Sizes.{buffer_size}

-- bytes b in dst from `at` on, where there is place for all of them; else dst as it is
unfoldable pub placed : List ℕ → ℕ → List ℕ → List ℕ
placed dst at b = if leb (at + length b) (length dst) then paste dst at b (length b) else dst

-- n bytes of src from `from` on, so placed, where src has them; else dst as it is
unfoldable pub pieced : List ℕ → ℕ → List ℕ → ℕ → ℕ → List ℕ
pieced dst at src from n = if leb (from + n) (length src) then placed dst at (take n (drop from src)) else dst

-- the store with bytes b over the buffers of a list, as many in each as it takes
unfoldable pub laid : List ℕ → List ℕ → List ℕ → List ℕ
laid store [] b = store
laid store (x ∷ l) b = laid (placed store (buffer_size * x) (take buffer_size b)) l (drop buffer_size b)

-- the room with n bytes from `at` on, which stand in the buffers of a list
unfoldable pub filled : List ℕ → ℕ → List ℕ → List ℕ → ℕ → List ℕ
filled room at store [] n = room
filled room at store (x ∷ l) n = filled (pieced room at store (buffer_size * x) (min buffer_size n)) (at + buffer_size) store l (n - buffer_size)
