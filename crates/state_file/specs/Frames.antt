-- The layout of a frame.
use Rattle.state_file.specs.declared.frame.Frame.{Frame}
use Rattle.state_file.specs.Layout.{Layout}
use Rattle.state_file.specs.Shape.{layout_of}

abbrev pub layout : Frame → Layout
layout frame = layout_of frame.geometry frame.key.items
