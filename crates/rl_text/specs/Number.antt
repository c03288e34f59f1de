-- Which texts are numbers, and which numbers they are.
use Rattle.std.specs.Prelude.{ℕ, ◌==◌, ◌^◌, Bool, not, ◌&&◌, nat_lt, List, length, slice_index, Option, Some, None, if◌then◌else◌}
use Rattle.std.specs.Char.{is_ascii_digit}
use Rattle.std.specs.List.{list_all}
use Rattle.std.specs.Str.Parse.{digits_value}

-- a 0 stands before another byte
abbrev pub has_leading_zero : List ℕ → Bool
has_leading_zero text = nat_lt 1 (length text) && slice_index text 0 == 48

-- one digit or more and nothing else, with no 0 in front of another
abbrev pub is_decimal : List ℕ → Bool
is_decimal text = nat_lt 0 (length text) && list_all is_ascii_digit text && not (has_leading_zero text)

-- the number below 2 ^ 64 that the text writes in decimal, if it writes one
unfoldable pub number_of : List ℕ → Option ℕ
number_of text =
    if is_decimal text && nat_lt (digits_value 10 text) (2 ^ 64) then Some (digits_value 10 text) else None
