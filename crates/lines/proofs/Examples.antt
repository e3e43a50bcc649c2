-- Lines computed: where the number of a record gets one digit more, and the greatest number that 64 bits hold, above zero and below, with the greatest status that a byte holds.
use mathlib.Core.Path.{◌≡◌, refl}
use Rattle.model.specs.Log.{text, digits, decimal}
use Rattle.lines.specs.Words.{words_with, words_from, line_from}

before-million : line_from 999999 1 0 ≡ text "999999 going\n"
unfolding line_from words_from words_with text digits decimal
before-million = refl

at_million : line_from 1000000 2 2047 ≡ text "1000000 freed 2047\n"
unfolding line_from words_from words_with text digits decimal
at_million = refl

greatest : line_from 18446744073709551615 4 18446744073709551615 ≡ text "18446744073709551615 value 18446744073709551615 0\n"
unfolding line_from words_from words_with text digits decimal
greatest = refl

below-zero : line_from 18446744073709551615 65287 18446744073709551615 ≡ text "18446744073709551615 value -18446744073709551615 255\n"
unfolding line_from words_from words_with text digits decimal
below-zero = refl
