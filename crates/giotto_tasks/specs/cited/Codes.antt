-- Codes of the trees: each tree as a list of marks in prefix order. Two trees with the same list are equal.
use Rattle.std.specs.Prelude.{◌≡◌, ℕ, ℤ, pos, List, [], ◌∷◌, slice_index_or, refl}
use Rattle.std.proofs.Common.{ap, sym, ◌∙◌}
use Rattle.std.specs.Coded.{Coded, code_by, coded_list, coded×, coded_ℕ, coded_ℤ}
use base.Stored.{coded_via}
use Rattle.giotto_tasks.specs.Syntax.{Expression, number, port, unary, binary, Statement, assign, branch, repeat, Block, finished, step, TaskBody}
use Rattle.giotto_tasks.specs.declared.names.Name.{Name}
use Rattle.giotto_tasks.specs.declared.operators.UnaryOperator.{UnaryOperator}
use Rattle.giotto_tasks.specs.declared.operators.UnaryOperator.TheVariants.{Negate, Not}
use Rattle.giotto_tasks.specs.declared.operators.BinaryOperator.{BinaryOperator}
use Rattle.giotto_tasks.specs.declared.operators.BinaryOperator.TheVariants.{Add, Subtract, Multiply, Divide, Remainder, Equal, NotEqual, Less, AtMost, Greater, AtLeast, And, Or}

-- the operators of one operand, in order, and the place of each
abbrev unary_operators : List UnaryOperator
unary_operators = Negate ∷ Not ∷ []

abbrev unary_place : UnaryOperator → ℕ
unary_place Negate = 0
unary_place Not = 1

unary_at_place : (o : UnaryOperator) → slice_index_or unary_operators (unary_place o) Negate ≡ o
unary_at_place Negate = refl
unary_at_place Not = refl

pub one_unary : (o p : UnaryOperator) → unary_place o ≡ unary_place p → o ≡ p
one_unary o p e = sym (unary_at_place o) ∙ ap (λ n. slice_index_or unary_operators n Negate) e ∙ unary_at_place p

-- the same for the operators of two operands
abbrev binary_operators : List BinaryOperator
binary_operators = Add ∷ Subtract ∷ Multiply ∷ Divide ∷ Remainder ∷ Equal ∷ NotEqual ∷ Less ∷ AtMost ∷ Greater ∷ AtLeast ∷ And ∷ Or ∷ []

abbrev binary_place : BinaryOperator → ℕ
binary_place Add = 0
binary_place Subtract = 1
binary_place Multiply = 2
binary_place Divide = 3
binary_place Remainder = 4
binary_place Equal = 5
binary_place NotEqual = 6
binary_place Less = 7
binary_place AtMost = 8
binary_place Greater = 9
binary_place AtLeast = 10
binary_place And = 11
binary_place Or = 12

binary_at_place : (o : BinaryOperator) → slice_index_or binary_operators (binary_place o) Add ≡ o
binary_at_place Add = refl
binary_at_place Subtract = refl
binary_at_place Multiply = refl
binary_at_place Divide = refl
binary_at_place Remainder = refl
binary_at_place Equal = refl
binary_at_place NotEqual = refl
binary_at_place Less = refl
binary_at_place AtMost = refl
binary_at_place Greater = refl
binary_at_place AtLeast = refl
binary_at_place And = refl
binary_at_place Or = refl

pub one_binary : (o p : BinaryOperator) → binary_place o ≡ binary_place p → o ≡ p
one_binary o p e = sym (binary_at_place o) ∙ ap (λ n. slice_index_or binary_operators n Add) e ∙ binary_at_place p

-- one constructor of a tree, with its contents other than trees
pub data Mark : Type 0 where
  number_mark : ℤ → Mark
  port_mark : Name → Mark
  unary_mark : ℕ → Mark
  binary_mark : ℕ → Mark
  assign_mark : Name → Mark
  branch_mark : Mark
  repeat_mark : ℕ → Mark
  finished_mark : Mark
  step_mark : Mark

-- a mark as its place among the constructors, a signed number, a number and a name
abbrev mark_parts : Mark → ℕ × (ℤ × (ℕ × Name))
mark_parts (number_mark z) = (0, (z, (0, [])))
mark_parts (port_mark x) = (1, (pos 0, (0, x)))
mark_parts (unary_mark n) = (2, (pos 0, (n, [])))
mark_parts (binary_mark n) = (3, (pos 0, (n, [])))
mark_parts (assign_mark x) = (4, (pos 0, (0, x)))
mark_parts branch_mark = (5, (pos 0, (0, [])))
mark_parts (repeat_mark n) = (6, (pos 0, (n, [])))
mark_parts finished_mark = (7, (pos 0, (0, [])))
mark_parts step_mark = (8, (pos 0, (0, [])))

abbrev mark_at_place : ℤ → ℕ → Name → ℕ → Mark
mark_at_place z n x place =
    slice_index_or
    (number_mark z ∷ port_mark x ∷ unary_mark n ∷ binary_mark n ∷ assign_mark x ∷ branch_mark ∷ repeat_mark n ∷ finished_mark ∷ step_mark ∷ [])
    place step_mark

abbrev mark_of_parts : ℕ × (ℤ × (ℕ × Name)) → Mark
mark_of_parts p = mark_at_place p.1.0 p.1.1.0 p.1.1.1 p.0

pub mark_again : (m : Mark) → mark_of_parts (mark_parts m) ≡ m
mark_again (number_mark z) = refl
mark_again (port_mark x) = refl
mark_again (unary_mark n) = refl
mark_again (binary_mark n) = refl
mark_again (assign_mark x) = refl
mark_again branch_mark = refl
mark_again (repeat_mark n) = refl
mark_again finished_mark = refl
mark_again step_mark = refl

abbrev marks_code : Coded (List Mark)
marks_code =
    coded_list (code_by (ℕ × (ℤ × (ℕ × Name))) (coded× coded_ℕ (coded× coded_ℤ (coded× coded_ℕ (coded_list coded_ℕ)))) mark_parts mark_of_parts mark_again)

abbrev names_code : Coded (List Name)
names_code = coded_list (coded_list coded_ℕ)

-- the marks of an expression, before ms
abbrev expression_marks : Expression → List Mark → List Mark
expression_marks (number z) ms = number_mark z ∷ ms
expression_marks (port x) ms = port_mark x ∷ ms
expression_marks (unary o e) ms = unary_mark (unary_place o) ∷ expression_marks e ms
expression_marks (binary o a b) ms = binary_mark (binary_place o) ∷ expression_marks a (expression_marks b ms)

pub one_expression : (a b : Expression) (xs ys : List Mark) → expression_marks a xs ≡ expression_marks b ys → (a ≡ b) × (xs ≡ ys)
one_expression (number y) (number z) xs ys e = (let same : y ≡ z = cc in ap number same, cc)
one_expression (port x) (port y) xs ys e = (let same : x ≡ y = cc in ap port same, cc)
one_expression (unary o a) (unary p b) xs ys e =
    let places : unary_place o ≡ unary_place p = cc in
    let operators = one_unary o p places in
    let below = one_expression a b xs ys cc in
    let tree = below.0 in
    (cc, below.1)
one_expression (binary o a b) (binary p c d) xs ys e =
    let places : binary_place o ≡ binary_place p = cc in
    let operators = one_binary o p places in
    let left = one_expression a c (expression_marks b xs) (expression_marks d ys) cc in
    let right = one_expression b d xs ys left.1 in
    let l = left.0 in
    let r = right.0 in
    (cc, right.1)
one_expression (number y) (port x) xs ys e = absurd (cc)
one_expression (number y) (unary o b) xs ys e = absurd (cc)
one_expression (number y) (binary o b c) xs ys e = absurd (cc)
one_expression (port x) (number z) xs ys e = absurd (cc)
one_expression (port x) (unary o b) xs ys e = absurd (cc)
one_expression (port x) (binary o b c) xs ys e = absurd (cc)
one_expression (unary o a) (number z) xs ys e = absurd (cc)
one_expression (unary o a) (port x) xs ys e = absurd (cc)
one_expression (unary o a) (binary p b c) xs ys e = absurd (cc)
one_expression (binary o a b) (number z) xs ys e = absurd (cc)
one_expression (binary o a b) (port x) xs ys e = absurd (cc)
one_expression (binary o a b) (unary p c) xs ys e = absurd (cc)

-- a code for expressions
abbrev pub expression_code : Coded Expression
expression_code = coded_via marks_code (λ e. expression_marks e []) (λ a b e. (one_expression a b [] [] e).0)

abbrev mutual
  statement_marks : Statement → List Mark → List Mark
  statement_marks (assign x e) ms = assign_mark x ∷ expression_marks e ms
  statement_marks (branch c a b) ms = branch_mark ∷ expression_marks c (block_marks a (block_marks b ms))
  statement_marks (repeat n b) ms = repeat_mark n ∷ block_marks b ms

  -- the marks of a block, before ms
  block_marks : Block → List Mark → List Mark
  block_marks finished ms = finished_mark ∷ ms
  block_marks (step s b) ms = step_mark ∷ statement_marks s (block_marks b ms)

mutual
  pub one_statement : (s t : Statement) (xs ys : List Mark) → statement_marks s xs ≡ statement_marks t ys → (s ≡ t) × (xs ≡ ys)
  one_statement (assign x a) (assign y b) xs ys e =
      let names : x ≡ y = cc in
      let value = one_expression a b xs ys cc in
      let tree = value.0 in
      (cc, value.1)
  one_statement (branch c a b) (branch d f g) xs ys e =
      let test = one_expression c d (block_marks a (block_marks b xs)) (block_marks f (block_marks g ys)) cc in
      let then = one_block a f (block_marks b xs) (block_marks g ys) test.1 in
      let other = one_block b g xs ys then.1 in
      let x = test.0 in
      let y = then.0 in
      let z = other.0 in
      (cc, other.1)
  one_statement (repeat m a) (repeat n b) xs ys e =
      let turns : m ≡ n = cc in
      let below = one_block a b xs ys cc in
      let tree = below.0 in
      (cc, below.1)
  one_statement (assign x a) (branch d f g) xs ys e = absurd (cc)
  one_statement (assign x a) (repeat n b) xs ys e = absurd (cc)
  one_statement (branch c a b) (assign y d) xs ys e = absurd (cc)
  one_statement (branch c a b) (repeat n d) xs ys e = absurd (cc)
  one_statement (repeat m a) (assign y b) xs ys e = absurd (cc)
  one_statement (repeat m a) (branch d f g) xs ys e = absurd (cc)

  pub one_block : (a b : Block) (xs ys : List Mark) → block_marks a xs ≡ block_marks b ys → (a ≡ b) × (xs ≡ ys)
  one_block finished finished xs ys e = (refl, cc)
  one_block (step s a) (step t b) xs ys e =
      let first = one_statement s t (block_marks a xs) (block_marks b ys) cc in
      let rest = one_block a b xs ys first.1 in
      let l = first.0 in
      let r = rest.0 in
      (cc, rest.1)
  one_block finished (step t b) xs ys e = absurd (cc)
  one_block (step s a) finished xs ys e = absurd (cc)

-- a code for blocks
abbrev pub block_code : Coded Block
block_code = coded_via marks_code (λ b. block_marks b []) (λ a b e. (one_block a b [] [] e).0)

-- a code for bodies: that of their names and their block
abbrev pub body_code : Coded TaskBody
body_code =
    code_by (List Name × (List Name × (List Name × Block))) (coded× names_code (coded× names_code (coded× names_code block_code)))
    (λ b. (b.inputs, (b.outputs, (b.states, b.block))))
    (λ p. record { inputs = p.0; outputs = p.1.0; states = p.1.1.0; block = p.1.1.1 })
    (λ _. refl)
