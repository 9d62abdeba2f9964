-- Numbers as bytes, big-endian, in a given count of bytes; and 32 bits as a signed number. Assumes nothing.
use Rattle.std.specs.Prelude.{ℕ, zero, suc, ◌+◌, ◌-◌, ◌*◌, ◌/◌, ◌%◌, true, false, List, [], ◌∷◌, ◌++◌, ltb, ℤ, pos, negsuc, take, drop}

-- The w bytes of x.
unfoldable pub word : ℕ → ℕ → List ℕ
word zero x = []
word (suc w) x = word w (x / 256) ++ (x % 256 ∷ [])

-- The number of the bytes that follow: v is the value so far.
unfoldable pub value : ℕ → List ℕ → ℕ
value v [] = v
value v (b ∷ bs) = value (v * 256 + b) bs

-- The w bytes from a place on.
unfoldable pub part : ℕ → ℕ → List ℕ → List ℕ
part at w l = take w (drop at l)

-- The number in the w bytes from a place on.
unfoldable pub word_at : ℕ → ℕ → List ℕ → ℕ
word_at at w l = value 0 (part at w l)

-- Of 32 bits, those from 2,147,483,648 on stand for the numbers below zero.
unfoldable pub signed : ℕ → ℤ
signed x = elim (ltb x 2_147_483_648) [ true ↦ pos x | false ↦ negsuc (4_294_967_295 - x) ]

unfoldable pub unsigned : ℤ → ℕ
unsigned (pos n) = n
unsigned (negsuc n) = 4_294_967_295 - n
