-- Numbers and texts as the values of columns.
use Rattle.std.specs.Prelude.{ℕ, pos, negsuc, List, [], Option, Some, None}
use Rattle.sqlite_value.specs.declared.value.Value.{Value}
use Rattle.sqlite_value.specs.declared.value.Value.TheVariants.{Null, Int, Real, Text, Blob}

-- the number of a column (0 where it is none)
abbrev pub number_of : Value → ℕ
number_of Null = 0
number_of (Int (pos n)) = n
number_of (Int (negsuc n)) = 0
number_of (Real x) = 0
number_of (Text t) = 0
number_of (Blob b) = 0

-- the number of a column that may be null
abbrev pub option_of : Value → Option ℕ
option_of Null = None
option_of (Int (pos n)) = Some n
option_of (Int (negsuc n)) = None
option_of (Real x) = None
option_of (Text t) = None
option_of (Blob b) = None

-- the bytes of a text (none where it is none)
abbrev pub text_of : Value → List ℕ
text_of Null = []
text_of (Int n) = []
text_of (Real x) = []
text_of (Text t) = t
text_of (Blob b) = []

abbrev pub int : ℕ → Value
int n = Int (pos n)

abbrev pub maybe_int : Option ℕ → Value
maybe_int None = Null
maybe_int (Some n) = int n
