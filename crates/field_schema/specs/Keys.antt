-- The equality and the order of keys.
use Rattle.std.specs.Prelude.{ℕ, Bool, false, Option, Some}
use Rattle.std.specs.Ordering.{nat_cmp, int_cmp, int_eq, bool_cmp}
use Rattle.std.specs.declared.cmp.Ordering.{Ordering}
use mathlib.Core.Bool.{beq}
use Rattle.field_schema.specs.declared.key.Key.{Key}
use Rattle.field_schema.specs.declared.key.Key.TheVariants.{Str, Long, Bool as Truth, Token}
use Rattle.field_schema.specs.Bytes.{bytes_eq, bytes_cmp}

-- the place of a key's kind among the kinds
abbrev pub kind_place : Key → ℕ
kind_place (Str text) = 0
kind_place (Long number) = 1
kind_place (Truth truth) = 2
kind_place (Token text) = 3

-- keys of one kind with the same value
abbrev pub key_eq : Key → Key → Bool
key_eq (Str s) (Str t) = bytes_eq s t
key_eq (Long m) (Long n) = int_eq m n
key_eq (Truth a) (Truth b) = beq a b
key_eq (Token s) (Token t) = bytes_eq s t
key_eq x y = false

-- texts by bytes, numbers by value, false before true, and keys of two kinds as their kinds stand
abbrev pub key_cmp : Key → Key → Ordering
key_cmp (Str s) (Str t) = bytes_cmp s t
key_cmp (Long m) (Long n) = int_cmp m n
key_cmp (Truth a) (Truth b) = bool_cmp a b
key_cmp (Token s) (Token t) = bytes_cmp s t
key_cmp x y = nat_cmp (kind_place x) (kind_place y)

-- the same as an answer that may be missing
abbrev pub key_partial_cmp : Key → Key → Option Ordering
key_partial_cmp x y = Some (key_cmp x y)
