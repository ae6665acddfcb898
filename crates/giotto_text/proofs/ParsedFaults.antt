-- Texts that are refused, each with its fault, and texts that are just within the limits.
use Rattle.std.proofs.Common.{◌≡◌, ℕ, true, List, ◌++◌, replicate, Err, is_ok, codes, refl}
use Rattle.giotto_text.specs.declared.faults.ReadFault.TheVariants.{Syntax, TooDeep, TooMany}
use Rattle.giotto_text.specs.Parsing.{parsed}

-- the text is refused with this offset
abbrev FaultsAt : List ℕ → ℕ → Type 0
FaultsAt text offset = parsed text ≡ Err (Syntax offset)

abbrev IsRead : List ℕ → Type 0
IsRead text = is_ok (parsed text) ≡ true

-- n times "(", and n times ")"
abbrev opened : ℕ → List ℕ
opened n = replicate n 40

abbrev closed : ℕ → List ℕ
closed n = replicate n 41

-- the tokens end too early: the offset is the length of the text, including trailing blanks
pub empty_text : FaultsAt (codes "") 0
empty_text = refl

pub sensor_alone : FaultsAt (codes "sensor") 6
sensor_alone = refl

pub blanks_at_the_end : FaultsAt (codes "start m  ") 9
blanks_at_the_end = refl

pub number_for_a_mode_name : FaultsAt (codes "start 5;") 6
number_for_a_mode_name = refl

pub no_token_in_a_mode_name : FaultsAt (codes "start m@;") 7
no_token_in_a_mode_name = refl

pub token_behind_the_end : FaultsAt (codes "mode m period 1 { } start m; x") 29
token_behind_the_end = refl

pub no_line_and_no_grant : FaultsAt (codes "sensor s := 0;") 13
no_line_and_no_grant = refl

-- each kind of declaration has its place, and so has each kind of line in a mode
pub sensor_behind_output : FaultsAt (codes "output o := 0; sensor s := 0 line 0;") 15
sensor_behind_output = refl

pub update_behind_invocation : FaultsAt (codes "mode m period 1 { taskfreq 1 do T(); actfreq 1 do a := 1; } start m;") 37
update_behind_invocation = refl

pub switch_behind_invocation : FaultsAt (codes "mode m period 1 { taskfreq 1 do T(); exitfreq 1 do m; } start m;") 37
switch_behind_invocation = refl

pub update_behind_switch : FaultsAt (codes "mode m period 1 { exitfreq 1 do m; actfreq 1 do a := 1; } start m;") 35
update_behind_switch = refl

pub outputs_behind_states : FaultsAt (codes "task T() state s := 0 output o { } start m;") 22
outputs_behind_states = refl

-- a keyword can't be a name
pub keyword_for_a_name : FaultsAt (codes "output line := 0; start m;") 7
keyword_for_a_name = refl

pub number_then_keyword : IsRead (codes "mode m period 2 { actfreq 1do a := 3; } start m;")
number_then_keyword = refl

-- 9223372036854775808 is allowed only after the "-" of an initial value
pub least_initial : IsRead (codes "sensor s := -9223372036854775808 line 0; start m;")
least_initial = refl

pub no_minus : FaultsAt (codes "sensor s := 9223372036854775808 line 0; start m;") 12
no_minus = refl

pub no_such_number : FaultsAt (codes "sensor s := 9223372036854775809 line 0; start m;") 12
no_such_number = refl

pub minus_of_an_expression : FaultsAt (codes "task T() { x := -9223372036854775808; } start m;") 17
minus_of_an_expression = refl

-- an expression has one operation: a second operator is a fault
pub name_behind_a_number : FaultsAt (codes "task T() { x := 5abc; } start m;") 17
name_behind_a_number = refl

pub two_sums : FaultsAt (codes "task T() { x := a + b + c; } start m;") 22
two_sums = refl

pub sum_and_product : FaultsAt (codes "task T() { a := 1 + 2 * 3; } start m;") 22
sum_and_product = refl

pub sum_of_a_unary : FaultsAt (codes "task T() { x := -a + b; } start m;") 19
sum_of_a_unary = refl

pub two_unary : FaultsAt (codes "task T() { x := - -a; } start m;") 18
two_unary = refl

pub two_not : FaultsAt (codes "task T() { x := !!a; } start m;") 17
two_not = refl

pub open_parenthesis : FaultsAt (codes "task T() { x := (a + b; } start m;") 22
open_parenthesis = refl

pub no_block_behind_else : FaultsAt (codes "task T() { if a { } else x := 1; } start m;") 25
no_block_behind_else = refl

pub two_else : FaultsAt (codes "task T() { if a { } else { } else { } } start m;") 29
two_else = refl

pub else_alone : FaultsAt (codes "task T() { else { } } start m;") 11
else_alone = refl

-- 32 may be open at once; the kinds need not match, and a closing token without an opening one doesn't count
pub nested_32_deep : FaultsAt (opened 32) 0
nested_32_deep = refl

pub nested_33_deep : parsed (opened 33) ≡ Err TooDeep
nested_33_deep = refl

-- the order of the checks: no token, too deep, the grammar, too many
pub deep_before_grammar : parsed (codes "x " ++ opened 33) ≡ Err TooDeep
deep_before_grammar = refl

pub token_before_deep : FaultsAt (opened 33 ++ codes "@") 33
token_before_deep = refl

pub other_kind_closes : FaultsAt (codes "(}(}(}(}(}(}(}(}(}(}(}(}(}(}(}(}(}(}(}(}(}(}(}(}(}(}(}(}(}(}(}(}(}(}(}(}(}(}(}(}") 0
other_kind_closes = refl

pub too_many_closed : parsed (closed 40 ++ opened 33) ≡ Err TooDeep
too_many_closed = refl

-- the first example with its sum in parentheses
abbrev in_parentheses : ℕ → List ℕ
in_parentheses n =
    codes "sensor s := 0 line 0; actuator a := 0; output o := 0; task T(i) output o { o := " ++ opened n ++ codes "i + 1" ++ closed n
    ++ codes "; } mode m period 2 { actfreq 1 do a := o; taskfreq 1 do T(s); } start m;"

pub sum_32_deep : IsRead (in_parentheses 31)
sum_32_deep = refl

pub sum_33_deep : parsed (in_parentheses 32) ≡ Err TooDeep
sum_33_deep = refl

-- at most 16 inputs, 16 outputs and 16 states, checked after the grammar
pub inputs_16 : IsRead (codes "task T(i0, i1, i2, i3, i4, i5, i6, i7, i8, i9, i10, i11, i12, i13, i14, i15) { } start m;")
inputs_16 = refl

pub inputs_17 : parsed (codes "task T(i0, i1, i2, i3, i4, i5, i6, i7, i8, i9, i10, i11, i12, i13, i14, i15, i16) { } start m;") ≡ Err TooMany
inputs_17 = refl

pub outputs_17 : parsed (codes "task T() output o0, o1, o2, o3, o4, o5, o6, o7, o8, o9, o10, o11, o12, o13, o14, o15, o16 { } start m;") ≡ Err TooMany
outputs_17 = refl

pub states_16 : IsRead (codes "task T() state s0 := 0, s1 := 0, s2 := 0, s3 := 0, s4 := 0, s5 := 0, s6 := 0, s7 := 0, s8 := 0, s9 := 0, s10 := 0, s11 := 0, s12 := 0, s13 := 0, s14 := 0, s15 := 0 { } start m;")
states_16 = refl

pub states_17 : parsed (codes "task T() state s0 := 0, s1 := 0, s2 := 0, s3 := 0, s4 := 0, s5 := 0, s6 := 0, s7 := 0, s8 := 0, s9 := 0, s10 := 0, s11 := 0, s12 := 0, s13 := 0, s14 := 0, s15 := 0, s16 := 0 { } start m;") ≡ Err TooMany
states_17 = refl

pub grammar_before_many : FaultsAt (codes "task T(i0, i1, i2, i3, i4, i5, i6, i7, i8, i9, i10, i11, i12, i13, i14, i15, i16) { } start m") 93
grammar_before_many = refl
