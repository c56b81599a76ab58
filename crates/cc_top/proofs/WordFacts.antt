-- The words of the call.
use Rattle.std.proofs.Common.{◌≡◌, ◌≢◌, ◌<◌, ◌≤◌, ◌⊎◌, ⊎_elim, ◌+◌, ◌*◌, ◌/◌, ◌%◌, ◌++◌, ◌∷◌, [], ℕ, List, length, inl, inr, sym, ap, ◌∙◌, arith}
use Rattle.std.proofs.lemmas.Bool.{cases_lt}
use Rattle.std.specs.Fmt.{decimal}
use Rattle.std.proofs.lemmas.Fmt.{decimal_digit, decimal_step}
use Rattle.cc_top.specs.Words.{IsCommand, IsCommandOf, IsCount, IsNoCommand, IsNoCommandOf, devices_word, devices_words, gen_word, three_words, two_words, word_of}
use Rattle.cc_top.specs.declared.words.Command.{Command}
use Rattle.cc_top.specs.declared.words.Command.TheVariants as command
use Rattle.cc_top.specs.declared.words.Task.{Task}
use Rattle.cc_top.specs.declared.words.Task.TheVariants as task

-- two words are not three
pub two_are_not_three : {A : Type 0} (a b c d e : List ℕ) → two_words a b ≡ three_words c d e → A
two_are_not_three a b c d e same =
    let f : 2 ≡ 3 = ap (λ (w : List (List ℕ)). length w) same in
    absurd (omega (arith, f))

-- two words that are this command
pub command_told : (word argument : List ℕ) (c : Command) → IsCommandOf word argument c → IsCommand (two_words word argument) c
command_told word argument (command.Project t name) h = let e = h.0 in let f = h.1 in cc
command_told word argument (command.Generated n) h = (h.1, let e = h.0 in let f = h.2 in cc)
command_told word argument (command.Devices name devices) h = absurd h

-- two words that are no command
pub no_command_told : (word argument : List ℕ) → IsNoCommandOf word argument → IsNoCommand (two_words word argument)
no_command_told word argument none = (
  λ t project e. none.0 t (let f = e in cc),
  λ n count e. none.1 (let f = e in cc) n count (let f = e in cc),
  λ project devices e. two_are_not_three word argument devices_word project devices e,
)

-- and three
pub devices_told : (word name devices : List ℕ) → word ≡ devices_word → three_words word name devices ≡ devices_words name devices
devices_told word name devices is = ap (λ w. three_words w name devices) is

pub no_devices_told : (word name devices : List ℕ) → word ≢ devices_word → IsNoCommand (three_words word name devices)
no_devices_told word name devices none = (
  λ t project e. two_are_not_three (word_of t) project word name devices (sym e),
  λ n count e. two_are_not_three gen_word (decimal n) word name devices (sym e),
  λ project others e. none (let f = e in cc),
)

-- the text of a number of two digits
two_digits : (n : ℕ) → 10 ≤ n → n ≤ 60 → decimal n ≡ (48 + n / 10) ∷ (48 + n % 10) ∷ []
two_digits n big small =
    decimal_step n big (omega (arith, small)) ∙ ap (λ digits. digits ++ ((48 + n % 10) ∷ [])) (decimal_digit (n / 10) (omega (arith, small)))

one_by : (ones n : ℕ) → IsCount n → ones ∷ [] ≡ decimal n → (n < 10) ⊎ (10 ≤ n) → (n ≤ 9) × (ones ≡ 48 + n)
one_by ones n count e (inl small) = let f : ones ∷ [] ≡ (48 + n) ∷ [] = e ∙ decimal_digit n small in (omega (arith, small), cc)
one_by ones n count e (inr big) =
    let f : 1 ≡ 2 = ap (λ (w : List ℕ). length w) (e ∙ two_digits n big count.1) in
    absurd (omega (arith, f))

-- which number a text of one byte is
pub is_one : (ones n : ℕ) → IsCount n → ones ∷ [] ≡ decimal n → (n ≤ 9) × (ones ≡ 48 + n)
is_one ones n count e = one_by ones n count e (cases_lt n 10)

two_by : (tens ones n : ℕ) → IsCount n → tens ∷ ones ∷ [] ≡ decimal n → (n < 10) ⊎ (10 ≤ n) → (10 ≤ n) × (tens ≡ 48 + n / 10) × (ones ≡ 48 + n % 10)
two_by tens ones n count e (inl small) =
    let f : 2 ≡ 1 = ap (λ (w : List ℕ). length w) (e ∙ decimal_digit n small) in
    absurd (omega (arith, f))
two_by tens ones n count e (inr big) =
    let f : tens ∷ ones ∷ [] ≡ (48 + n / 10) ∷ (48 + n % 10) ∷ [] = e ∙ two_digits n big count.1 in
    (big, cc, cc)

-- which number a text of two bytes is
pub is_two : (tens ones n : ℕ) → IsCount n → tens ∷ ones ∷ [] ≡ decimal n → (10 ≤ n) × (tens ≡ 48 + n / 10) × (ones ≡ 48 + n % 10)
is_two tens ones n count e = two_by tens ones n count e (cases_lt n 10)

length_by : (word : List ℕ) (n : ℕ) → IsCount n → word ≡ decimal n → (n < 10) ⊎ (10 ≤ n) → (length word ≡ 1) ⊎ (length word ≡ 2)
length_by word n count e (inl small) = inl (ap (λ (w : List ℕ). length w) (e ∙ decimal_digit n small))
length_by word n count e (inr big) = inr (ap (λ (w : List ℕ). length w) (e ∙ two_digits n big count.1))

-- a text of another length is no number of components
pub no_count : (word : List ℕ) → length word ≢ 1 → length word ≢ 2 → (n : ℕ) → IsCount n → word ≢ decimal n
no_count word one two n count = λ e. ⊎_elim one two (length_by word n count e (cases_lt n 10))

-- the text of a number of one digit, and of one of two
pub one_told : (ones n : ℕ) → n ≤ 9 → ones ≡ 48 + n → ones ∷ [] ≡ decimal n
one_told ones n small is = ap (λ b. b ∷ []) is ∙ sym (decimal_digit n (omega (arith, small)))

pub two_told : (tens ones t o : ℕ) → 1 ≤ t → t ≤ 9 → o ≤ 9 → t * 10 + o ≤ 60 → tens ≡ 48 + t → ones ≡ 48 + o → tens ∷ ones ∷ [] ≡ decimal (t * 10 + o)
two_told tens ones t o some small less within is_tens is_ones =
    let quotient : (t * 10 + o) / 10 ≡ t = omega (arith, less) in
    let rest : (t * 10 + o) % 10 ≡ o = omega (arith, less) in
    let text = two_digits (t * 10 + o) (omega (arith, some)) within in
    ap (λ b. b ∷ ones ∷ []) (is_tens ∙ ap (λ d. 48 + d) (sym quotient)) ∙ ap (λ b. (48 + (t * 10 + o) / 10) ∷ b ∷ []) (is_ones ∙ ap (λ d. 48 + d) (sym rest)) ∙ sym text

-- the word that asks for generated projects asks for no task
pub gen_is_no_task : (word : List ℕ) → word ≡ gen_word → (t : Task) → word ≢ word_of t
gen_is_no_task word is task.List = λ e. let f = sym is ∙ e in cc
gen_is_no_task word is task.Check = λ e. let f = sym is ∙ e in cc
gen_is_no_task word is task.Score = λ e. let f = sym is ∙ e in cc
gen_is_no_task word is task.Tests = λ e. let f = sym is ∙ e in cc
gen_is_no_task word is task.Pairs = λ e. let f = sym is ∙ e in cc
gen_is_no_task word is task.Reduce = λ e. let f = sym is ∙ e in cc
gen_is_no_task word is task.Order = λ e. let f = sym is ∙ e in cc

-- words that aren't two or three are no command
pub no_command : (words : List (List ℕ)) → length words ≢ 2 → length words ≢ 3 → IsNoCommand words
no_command words two three = (λ t project e. two (ap length e), λ n count e. two (ap length e), λ project devices e. three (ap length e))
