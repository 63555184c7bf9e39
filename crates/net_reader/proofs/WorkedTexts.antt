-- The answers to the worked texts, computed.
use Rattle.std.proofs.Common.{◌≡◌, ℕ, ◌≤◌, List, [], take, codes, Result, Ok, Err, refl, subst}
use Rattle.polis_base.specs.Tokens.{tokens_of}
use Rattle.polis_base.specs.declared.token.Sign.TheVariants.{RightBrace}
use Rattle.polis_base.specs.declared.token.Kind.TheVariants.{Sign}
use Rattle.polis_base.specs.declared.token.Token.{Token}
use Rattle.net_reader.specs.Lexemes.{Lexeme}
use Rattle.net_reader.specs.Reading.{only, word_at, num_at, value_at, many, after_comma, listed, names_at, range_at, shape_at, domain_at, from_env_at, to_env_at, env_at, typed_at, typed_part_at, event_at, state_at, absent_at, is_at, one_of_at, after_name_at, named_at, cond_at, plain_at, input_at, add_at, add_or_plain_at, after_value_at, sum_at, input_or_plain_at, input_or_sum_at, given_source_at, source_at, given_at, given_part_at, emit_at, set_at, act_at, nothing_at, acts_at, row_at, output_at, outputs_at, body_at, machine_at, net_at, end_at, whole_at}
use Rattle.net_reader.specs.inner.Outcomes.{outcome}
use Rattle.net_reader.specs.Sentences.{HasNet, BreaksAt, LacksLast}
use Rattle.net_reader.specs.Samples.{lamp_text, lamp, echo_text, echo, with_action, one_action, set_to_input}
use Rattle.net_reader.specs.declared.raw.RawNet.{RawNet}
use Rattle.net_reader.specs.declared.network.NetFault.{NetFault}
use Rattle.net_reader.specs.declared.network.NetFault.TheVariants.{Syntax}
use Rattle.net_reader.proofs.CutTexts.{last_end, first_bytes_need}
use Rattle.net_reader.proofs.Sentences.{whole_ok, has_net, breaks_at}

abbrev Answers : List ℕ → Result RawNet NetFault → Type 0
Answers text answer = outcome text ≡ answer

abbrev Faults : List ℕ → ℕ → Type 0
Faults text place = outcome text ≡ Err (Syntax place)

read : Answers lamp_text (Ok lamp)
    × Answers echo_text (Ok echo)
    × Answers (with_action (codes "2") (codes "s := value g")) (Ok (one_action 2 set_to_input))
unfolding only word_at num_at value_at many after_comma listed names_at range_at shape_at domain_at
    from_env_at to_env_at env_at typed_at typed_part_at event_at state_at absent_at is_at one_of_at
    after_name_at named_at cond_at plain_at input_at add_at add_or_plain_at after_value_at sum_at
    input_or_plain_at input_or_sum_at given_source_at source_at given_at given_part_at emit_at
    set_at act_at nothing_at acts_at row_at output_at outputs_at body_at machine_at net_at end_at
    whole_at
read = (refl, refl, refl)

broken : Faults (with_action (codes "1") (codes "s := value g")) 83
    × Faults (with_action (codes "3") (codes "s := value g")) 83
    × Faults (with_action (codes "3") (codes "emit e = value g")) 87
    × Faults (with_action (codes "1") (codes "s := s + 1")) 85
    × Faults (with_action (codes "2") (codes "emit e = s + 1")) 89
unfolding only word_at num_at value_at many after_comma listed names_at range_at shape_at domain_at
    from_env_at to_env_at env_at typed_at typed_part_at event_at state_at absent_at is_at one_of_at
    after_name_at named_at cond_at plain_at input_at add_at add_or_plain_at after_value_at sum_at
    input_or_plain_at input_or_sum_at given_source_at source_at given_at given_part_at emit_at
    set_at act_at nothing_at acts_at row_at output_at outputs_at body_at machine_at net_at end_at
    whole_at
broken = (refl, refl, refl, refl, refl)

pub lamp_declares : HasNet lamp_text lamp
lamp_declares = has_net lamp_text (tokens_of lamp_text) lamp refl read.0

pub echo_declares : HasNet echo_text echo
echo_declares = has_net echo_text (tokens_of echo_text) echo refl read.1

pub input_declares : HasNet (with_action (codes "2") (codes "s := value g"))
    (one_action 2 set_to_input)
input_declares = has_net (with_action (codes "2") (codes "s := value g"))
    (tokens_of (with_action (codes "2") (codes "s := value g"))) (one_action 2 set_to_input) refl
    read.2

pub input_in_1 : BreaksAt (with_action (codes "1") (codes "s := value g")) 83
input_in_1 = breaks_at (with_action (codes "1") (codes "s := value g"))
    (tokens_of (with_action (codes "1") (codes "s := value g"))) 83 refl broken.0

pub input_in_3 : BreaksAt (with_action (codes "3") (codes "s := value g")) 83
input_in_3 = breaks_at (with_action (codes "3") (codes "s := value g"))
    (tokens_of (with_action (codes "3") (codes "s := value g"))) 83 refl broken.1

pub given_in_3 : BreaksAt (with_action (codes "3") (codes "emit e = value g")) 87
given_in_3 = breaks_at (with_action (codes "3") (codes "emit e = value g"))
    (tokens_of (with_action (codes "3") (codes "emit e = value g"))) 87 refl broken.2

pub sum_in_1 : BreaksAt (with_action (codes "1") (codes "s := s + 1")) 85
sum_in_1 = breaks_at (with_action (codes "1") (codes "s := s + 1"))
    (tokens_of (with_action (codes "1") (codes "s := s + 1"))) 85 refl broken.3

pub sum_emitted : BreaksAt (with_action (codes "2") (codes "emit e = s + 1")) 89
sum_emitted = breaks_at (with_action (codes "2") (codes "emit e = s + 1"))
    (tokens_of (with_action (codes "2") (codes "emit e = s + 1"))) 89 refl broken.4

abbrev brace : Lexeme
brace = record { kind = Sign RightBrace; bytes = codes "}"; at = 214 }

pub lamp_lacks_last : LacksLast (take 214 lamp_text)
unfolding only word_at num_at value_at many after_comma listed names_at range_at shape_at domain_at
    from_env_at to_env_at env_at typed_at typed_part_at event_at state_at absent_at is_at one_of_at
    after_name_at named_at cond_at plain_at input_at add_at add_or_plain_at after_value_at sum_at
    input_or_plain_at input_or_sum_at given_source_at source_at given_at given_part_at emit_at
    set_at act_at nothing_at acts_at row_at output_at outputs_at body_at machine_at net_at end_at
    whole_at
lamp_lacks_last =
    record { tokens = _; read = refl; last = brace; net = lamp; sentence = whole_ok _ [] lamp refl }

-- the lamp's tokens end at byte 215
lamp_tokens : (ts : List Token) × (tokens_of lamp_text ≡ Ok ts) × (last_end ts ≡ 215)
lamp_tokens = (_, refl, refl)

pub lamp_cut : (k : ℕ) (cut : RawNet) → HasNet (take k lamp_text) cut → 215 ≤ k
lamp_cut k cut f =
    subst (λ n. n ≤ k) lamp_tokens.2
    (first_bytes_need lamp_text lamp_tokens.0 k cut lamp lamp_tokens.1 lamp_declares refl f)
