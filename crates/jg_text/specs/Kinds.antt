-- What kinds of operands there are.
pub data OperandKind : Type 0 where
  -- a reference, or `null`
  Reference : OperandKind
  -- a number of 32 bits with a sign
  Number : OperandKind
  -- a number of 64 bits with a sign
  LongNumber : OperandKind
  -- a list of numbers of 64 bits with a sign
  Numbers : OperandKind
  -- a name, as of a class
  Name : OperandKind
  -- a field ID
  Field : OperandKind
  -- a buffer
  Buffer : OperandKind
