-- The signs of a picture, and how wide it is.
use Rattle.std.specs.Prelude.{ℕ, List, [], ◌∷◌, codes}
use Rattle.meet_draw.specs.declared.style.Style.{Style}
use Rattle.meet_draw.specs.declared.style.Style.TheVariants.{Plain, Unicode}

-- where a ticket waits: U+2502 in UTF-8
abbrev pub bar_sign : Style → List ℕ
bar_sign Plain = codes "|"
bar_sign Unicode = 226 ∷ 148 ∷ 130 ∷ []

-- where a ticket was met or cut, and its seat wasn't told: U+250A
abbrev pub dots_sign : Style → List ℕ
dots_sign Plain = codes ":"
dots_sign Unicode = 226 ∷ 148 ∷ 138 ∷ []

-- between a seat and the one whose ticket it meets or cuts: U+2500
abbrev pub link_sign : Style → List ℕ
link_sign Plain = codes "-"
link_sign Unicode = 226 ∷ 148 ∷ 128 ∷ []

-- how many characters a row has at least, at most, and where nothing else is asked (our choice)
abbrev pub least_width : ℕ
least_width = 20

abbrev pub most_width : ℕ
most_width = 1000

abbrev pub usual_width : ℕ
usual_width = 100

-- how many characters a column has: the digits of the last seat, and a space (our choice)
abbrev pub column_width : ℕ
column_width = 6
