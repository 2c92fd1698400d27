-- The content that the vectors of a parse hold, and the room in them.
use Rattle.std.specs.Prelude.{ℕ, ◌+◌, ◌<◌, ◌≤◌, vec_len, vec_capacity}
use Rattle.ymachine.specs.declared.parts.Parts.{Parts}
use Rattle.ymachine.specs.Rest.{rest_in}
use Rattle.ymachine.specs.Content.{Content}

-- what the parts hold
abbrev pub content_of : Parts → Content
content_of p = record {
  stack = p.stack.items;
  nodes = p.nodes.items;
  children = p.children.items;
  rest = rest_in p.rest;
  counter = p.counter;
  errors = p.errors;
  mode = p.mode;
  steps = p.steps;
}

-- there is room for an entry for each step that stands, and for a token for each insertion
pub record HasRoom (p : Parts) : Type 0 where
  pub stack : p.steps ≤ vec_capacity p.stack
  pub inserted : p.rest.edits ≤ vec_capacity p.rest.inserted

-- no room was given up of the stack and of the tokens inserted
pub record KeepsRoom (old new : Parts) : Type 0 where
  pub stack : vec_capacity old.stack ≤ vec_capacity new.stack
  pub inserted : vec_capacity old.rest.inserted ≤ vec_capacity new.rest.inserted

-- there is room for a step that takes so many children, and for an insertion
pub record HasRoomFor (p : Parts) (count : ℕ) : Type 0 where
  pub stack : vec_len p.stack + 1 ≤ vec_capacity p.stack
  pub nodes : vec_len p.nodes + 1 ≤ vec_capacity p.nodes
  pub children : vec_len p.children + count ≤ vec_capacity p.children
  pub inserted : p.rest.edits < vec_capacity p.rest.inserted
